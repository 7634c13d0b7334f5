-- All theorems that Claims states, for every limits.
use Rattle.meaning.specs.declared.Limits.{Limits}
use Rattle.meaning.specs.Claims.{Theorems}
use Rattle.meaning.proofs.Lowest.{lowest_is}
use Rattle.meaning.proofs.InRange.{fields_named_lem}
use Rattle.meaning.proofs.Ranges.{read_in_range_lem, read_fits}
use Rattle.meaning.proofs.Printed.{read_printed_lem}
use Rattle.meaning.proofs.ReadExactly.{read_exactly_lem}
use Rattle.meaning.proofs.Decode.{decodes}
use Rattle.meaning.proofs.TableAfter.{table_after_lem, read_refused_lem}
use Rattle.meaning.proofs.Stopped.{handed_back_refused_lem}
use Rattle.meaning.proofs.Readable.{readable_exactly_lem, decided}
use Rattle.meaning.proofs.Feasible.{loading_kept_exactly_lem, accepted_when_feasible_lem}
use Rattle.meaning.proofs.AnyOrder.{order_free_lem, any_order}
use Rattle.meaning.proofs.Short.{printed_short_lem}
use Rattle.meaning.proofs.Stored.{stored_exactly_lem}
use Rattle.meaning.proofs.WriteBack.{writes_back_lem}

pub theorems : (m : Limits) → Theorems m
theorems m =
    record {
      lowest_place = lowest_is;
      fields_named = fields_named_lem;
      read_in_range = read_in_range_lem m;
      read_fits = read_fits m;
      read_printed = read_printed_lem m;
      read_exactly = read_exactly_lem m;
      read_refused = read_refused_lem m;
      decodes = decodes m;
      table_after = table_after_lem m;
      handed_back_refused = handed_back_refused_lem m;
      readable_exactly = readable_exactly_lem m;
      decided = decided m;
      loading_kept_exactly = loading_kept_exactly_lem m;
      accepted_when_feasible = accepted_when_feasible_lem m;
      order_free = order_free_lem m;
      any_order = any_order m;
      printed_short = printed_short_lem m;
      stored_exactly = stored_exactly_lem m;
      writes_back = writes_back_lem m;
    }
