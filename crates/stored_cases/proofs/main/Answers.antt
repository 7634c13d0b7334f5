-- The array is lent whole. Its length is cited: to count so many bytes one by one takes more than the checker has.
use Rattle.std.proofs.Common.{◌≡◌, ℕ, length, replicate, sym}
use Rattle.std.proofs.lemmas.List.{length-replicate}
use Rattle.stored_cases.proofs.main.Goals as goal

zeros_counted : (n : ℕ) → n ≡ length (replicate {0} {A = ℕ} n 0)
zeros_counted n = sym (length-replicate n 0)

pub slice_bounds-read_file-end-4 : goal.slice_bounds-read_file-end-4
slice_bounds-read_file-end-4 c = zeros_counted 1572864
