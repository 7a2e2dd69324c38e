-- The codes that `syntax`'s `call_codes` stores are those that the listing wants, where the slice has a byte for each call: so the
-- program's listing is the walk's, whatever the bytes.
use Rattle.std.specs.Prelude.{ℕ, ◌*◌, ◌≤◌, ◌≡◌, Bool, ◌||◌, length, drop, List, []}
use Rattle.std.proofs.Math.Path.{refl}
use Rattle.std.proofs.Math.Bool.{true, false}
use Rattle.std.proofs.Common.{arith}
use Rattle.std.proofs.Math.Dec.{ltb}
use Rattle.std.proofs.lemmas.List.Edits.{sets}
use Rattle.walk.specs.Reader.{Read, got, bad, Call, read_run}
use Rattle.walk.specs.Run.{Ran, play_all, start, refused_run, played, run_read, run}
use Rattle.syntax.specs.Codes.{codes_of, codes_in, unless_over, call_codes}
use Rattle.link.specs.Lists.{written}
use Rattle.ran.specs.declared.Ran.{Ran as Numbers}
use Rattle.run.specs.Contract.{walked, Runs}
use Rattle.text.specs.Listing.{listing}
use Rattle.listed.specs.Listed.{listed}
use Rattle.listed.specs.Theorem.{CodesOf}
use Rattle.listed.proofs.Theorem.{codes_many, codes_first, listing_is}
use Rattle.listed.specs.Codes.{Coded, no_calls, all_read}

module _ (bytes rows cells answers : List ℕ) where
  coded : Coded bytes (walked bytes rows cells answers).calls
  unfolding run run_read unless_over codes_in
  coded = go (ltb (length rows) 24 || ltb (length cells) 8) (ltb 65536 (length bytes)) refl (read_run bytes) refl
    where
      room : (limit : ℕ) (calls : List Call) (b : Bool) → call_codes bytes ≡ codes_of calls → Coded bytes (elim b as (λ _. Ran) [ true ↦ refused_run 4 0 | false ↦ played limit calls (play_all calls (start limit (length rows) (length cells))) ]).calls
      room limit calls true e = no_calls refl
      room limit calls false e = all_read e

      go : (a b : Bool) → ltb 65536 (length bytes) ≡ b → (r : Read (ℕ × List Call)) → read_run bytes ≡ r → Coded bytes (elim a as (λ _. Ran) [ true ↦ refused_run 1 0 | false ↦ elim b as (λ _. Ran) [ true ↦ refused_run 2 0 | false ↦ run_read (length rows) (length cells) (length answers) r ] ]).calls
      go true b q r e = no_calls refl
      go false true q r e = no_calls refl
      go false false q (bad place) e = no_calls refl
      go false false q (got (limit, calls) rest end) e = room limit calls (ltb (length answers) (4 * length calls)) (rw (q, e))

  stored : (codes : List ℕ) → length (walked bytes rows cells answers).calls ≤ length codes → CodesOf (walked bytes rows cells answers).calls (sets codes 0 (call_codes bytes))
  stored codes l = go coded
    where
      go : Coded bytes (walked bytes rows cells answers).calls → CodesOf (walked bytes rows cells answers).calls (sets codes 0 (call_codes bytes))
      go (no_calls e) = rw e (record { each_code = λ i k. absurd (omega (arith, k)) })
      go (all_read e) =
          let n = codes_many (walked bytes rows cells answers).calls in
          rw (e, written [] (codes_of (walked bytes rows cells answers).calls) codes 0 refl (omega arith)) (codes_first (walked bytes rows cells answers).calls (drop (length (codes_of (walked bytes rows cells answers).calls)) codes))

  -- For all bytes and slices: the listing of what the entry leaves, with the codes that are stored.
  pub program_lists : (r : Numbers) (rows' cells' answers' codes : List ℕ) → Runs bytes rows cells answers r rows' cells' answers' → length (walked bytes rows cells answers).calls ≤ length codes → listing r (sets codes 0 (call_codes bytes)) answers' rows' cells' ≡ listed (walked bytes rows cells answers)
  program_lists r rows' cells' answers' codes h l = listing_is bytes rows cells answers r rows' cells' answers' (sets codes 0 (call_codes bytes)) h (stored codes l)
