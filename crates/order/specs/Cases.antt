-- A run is refused as a whole, or read and played: what holds of both holds of every run.
use Rattle.std.specs.Prelude.{ℕ, ◌*◌, ◌≡◌, List, Bool, ◌||◌}
use Rattle.std.proofs.Math.Path.{refl}
use Rattle.std.proofs.Math.Bool.{true, false}
use Rattle.std.proofs.Math.Dec.{ltb}
use Rattle.std.proofs.Math.ListN.{length}
use Rattle.walk.specs.Refusal as Refusal
use Rattle.walk.specs.Reader.{Read, got, bad, Call, read_run}
use Rattle.order.specs.Reading.{WasRead, run_read_so}
use Rattle.walk.specs.Run.{Ran, play_all, start, refused_run, played, run_read, run}

module _ (row_words cell_words answer_words : ℕ) (bytes : List ℕ) (P : Ran → Type 0) (refused : (n place : ℕ) → P (refused_run n place)) (read : (limit : ℕ) (calls : List Call) → WasRead limit calls → P (played limit calls (play_all calls (start limit row_words cell_words)))) where
  read_cases : (r : Read (ℕ × List Call)) → read_run bytes ≡ r → P (run_read row_words cell_words answer_words r)
  unfolding run_read
  read_cases (bad place) e = refused _ place
  read_cases (got (limit, calls) rest end) e = go (ltb answer_words (4 * length calls))
    where
      go : (b : Bool) → P (elim b as (λ _. Ran) [ true ↦ refused_run Refusal.answers 0 | false ↦ played limit calls (play_all calls (start limit row_words cell_words)) ])
      go true = refused _ 0
      go false = read limit calls (run_read_so bytes limit calls rest end e)

  pub run_cases : P (run row_words cell_words answer_words bytes)
  unfolding run
  run_cases = go (ltb row_words 24 || ltb cell_words 8) (ltb 65536 (length bytes))
    where
      go : (a b : Bool) → P (elim a as (λ _. Ran) [ true ↦ refused_run Refusal.slices 0 | false ↦ elim b as (λ _. Ran) [ true ↦ refused_run Refusal.bytes 0 | false ↦ run_read row_words cell_words answer_words (read_run bytes) ] ])
      go true b = refused _ 0
      go false true = refused _ 0
      go false false = read_cases (read_run bytes) refl
