-- Demand 3: a readable plan is accepted exactly when its picture holds. Rule 9 and its words in the picture stand apart.
use mathlib.Core.Logic.{◌↔◌}
use mathlib.Core.List.{List, ◌++◌}
use Rattle.meaning.specs.declared.Limits.{Limits}
use Rattle.meaning.specs.Lists.{Every}
use Rattle.meaning.specs.Model.{Instance, Stack}
use Rattle.meaning.specs.Rules.{item_rules, stack_rules, placement_rules, weight_rules, loading_rules, rules}
use Rattle.meaning.specs.Feasible.{LoadingFeasible, Feasible}
use Rattle.meaning.specs.Claims.{KeptBy, LoadingKeptExactly, AcceptedWhenFeasible}
use Rattle.meaning.proofs.Tests.{iff_trans}
use Rattle.meaning.proofs.Lists.{◌&◌, every_append}
use Rattle.meaning.proofs.RuleKinds.{kept_rule}
use Rattle.meaning.proofs.WellFormed.{WellFormed, meets_formed}
use Rattle.meaning.proofs.Ranges.{read_meets}
use Rattle.meaning.proofs.Readable.{readable_answer}
use Rattle.meaning.proofs.Accepted.{accepted_exactly_lem}
use Rattle.meaning.proofs.ItemRules.{once_exactly, items_exactly}
use Rattle.meaning.proofs.StackRules.{stacks_exactly}
use Rattle.meaning.proofs.Extents.{floor_exactly, on_floor_exactly}
use Rattle.meaning.proofs.Heights.{inside_exactly}
use Rattle.meaning.proofs.Chains.{chains_exactly}
use Rattle.meaning.proofs.LoadingOrder.{order_exactly}
use Rattle.meaning.proofs.Levers.{weights_exactly, levers_exactly}

module _ (i : Instance) (p : List Stack) (formed : WellFormed i p) where
  -- all rules but 9, family by family
  record KeptRules : Type 0 where
    items : Every (KeptBy i p) item_rules
    stacks : Every (KeptBy i p) stack_rules
    placement : Every (KeptBy i p) placement_rules
    weights : Every (KeptBy i p) weight_rules

  by_family : Every (KeptBy i p) loading_rules ↔ KeptRules
  unfolding loading_rules
  by_family =
      let a = every_append (KeptBy i p) item_rules (stack_rules ++ (placement_rules ++ weight_rules)) in
      let b = every_append (KeptBy i p) stack_rules (placement_rules ++ weight_rules) in
      let c = every_append (KeptBy i p) placement_rules weight_rules in (
        (λ h.
            let d = a.0 h in
            let e = b.0 d.1 in
            let f = c.0 e.1 in
            record { items = d.0; stacks = e.0; placement = f.0; weights = f.1 }),
        (λ h. a.1 (h.items, b.1 (h.stacks, c.1 (h.placement, h.weights)))),
      )

  kept_holds : KeptRules → LoadingFeasible i p
  unfolding placement_rules weight_rules
  kept_holds h =
      let placement = kept_rule i p placement_rules h.placement in
      let weight = kept_rule i p weight_rules h.weights in
      let fits = (items_exactly i p formed).0 h.items in
      let inside = (inside_exactly i p formed).0 (placement 22) in
      record {
        rules =
            record {
              items = fits;
              stacks = (stacks_exactly i p formed (λ s m n k. (fits s m n k).plant_dock)).0 h.stacks;
              heights = λ s m. (inside s m).2;
              weights = (weights_exactly i p).0 (weight 26);
              order = (order_exactly i p formed fits).0 (placement 25);
            };
        floor = (floor_exactly i p formed).0 (placement 23);
        on_floor = λ s m. (on_floor_exactly i p formed s m).0 ((inside s m).0, (inside s m).1);
        chains = (chains_exactly i p formed).0 (placement 24);
        levers = (levers_exactly i p formed).0 (weight 27, weight 28);
      }

  holds_kept : LoadingFeasible i p → KeptRules
  unfolding placement_rules weight_rules
  holds_kept f =
      let r = f.rules in
      let inside = (inside_exactly i p formed).1 (λ s m. let k = (on_floor_exactly i p formed s m).1 (f.on_floor s m) in (k.0, k.1, r.heights s m)) in
      let axles = (levers_exactly i p formed).1 f.levers in
      record {
        items = (items_exactly i p formed).1 r.items;
        stacks = (stacks_exactly i p formed (λ s m n k. (r.items s m n k).plant_dock)).1 r.stacks;
        placement =
            inside
            & (floor_exactly i p formed).1 f.floor
            & (chains_exactly i p formed).1 f.chains
            & (order_exactly i p formed r.items).1 r.order
            & tt;
        weights =
            (weights_exactly i p).1 r.weights
            & axles.0
            & axles.1
            & tt;
      }

  loading_exactly : Every (KeptBy i p) loading_rules ↔ LoadingFeasible i p
  loading_exactly = iff_trans by_family (kept_holds, holds_kept)

pub loading_kept_exactly_lem : (m : Limits) → LoadingKeptExactly m
loading_kept_exactly_lem m instance plan r =
    loading_exactly r.says r.stacks (meets_formed m r.says r.stacks (read_meets m instance plan r))

-- with rule 9, which comes before the others
all_exactly : (i : Instance) (p : List Stack) → Every (KeptBy i p) loading_rules ↔ LoadingFeasible i p → Every (KeptBy i p) rules ↔ Feasible i p
unfolding rules
all_exactly i p loading = (
  (λ h. record { once = (once_exactly i p).0 h.0; loading = loading.0 h.1 }),
  (λ f. (once_exactly i p).1 f.once & loading.1 f.loading),
)

pub accepted_when_feasible_lem : (m : Limits) → AcceptedWhenFeasible m
accepted_when_feasible_lem m n instance plan r =
    let i = r.files.says in
    let p = r.files.stacks in
    rw (readable_answer m n instance plan r)
    (iff_trans (accepted_exactly_lem i p).exactly (all_exactly i p (loading_kept_exactly_lem m instance plan r.files)))
