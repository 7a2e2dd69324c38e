-- The words' number of repeats is the walk's, where the words hold the calls' codes and answers. Assumes nothing.
use Rattle.std.specs.Prelude.{◌≡◌, refl, true, false, List, [], ◌∷◌, map, ℕ, length, get_or}
use Rattle.std.proofs.Common.{sym, ap, ◌∙◌, eq-eqb, ne_eqb}
use Rattle.std.proofs.Math.Decide.{ℕ_discrete}
use Rattle.std.proofs.Math.Option.{some, none}
use Rattle.walk.specs.Reader.{Call, Code, CodeDiscrete, codes, c_context, c_universe, c_infer, c_check, c_normalise, c_equal, c_many, c_headwise}
use Rattle.walk.specs.Run as R
use Rattle.syntax.specs.Told.{code_number}
use Rattle.lines.specs.Repeats.{Accepted, call, with_call, accepted, same, occurs, repeats_after, repeats}
use Rattle.listed.specs.Said.{CallsIn, no_calls, and_call}
use Rattle.lines.specs.Counting.{with_yes, with_no, occurs_yes, occurs_no}

abbrev words : R.Accepted → Accepted
words (R.accept c row) = call (code_number c) row

-- Different codes have different numbers: the walk's table of codes gives each back.
back : (c : Code) → get_or codes (code_number c) none ≡ some c
back c_context = refl
back c_universe = refl
back c_infer = refl
back c_check = refl
back c_normalise = refl
back c_equal = refl
back c_many = refl
back c_headwise = refl

code_inj : (c d : Code) → code_number c ≡ code_number d → c ≡ d
code_inj c d e = let f : some c ≡ some d = sym (back c) ∙ ap (λ n. get_or codes n none) e ∙ back d in cc

same_yes : (x y : R.Accepted) → x ≡ y → same (words x) (words y) ≡ true
unfolding same
same_yes (R.accept c m) (R.accept d n) e = let f : c ≡ d = cc in let g : m ≡ n = cc in rw (eq-eqb (code_number c) (code_number d) (ap code_number f), eq-eqb m n g)

same_no : (x y : R.Accepted) → (x ≡ y → ⊥) → same (words x) (words y) ≡ false
unfolding same
same_no (R.accept c m) (R.accept d n) h = elim (ℕ_discrete (code_number c) (code_number d)) [
  | no k ↦ rw (ne_eqb (code_number c) (code_number d) k)
  | yes e ↦ rw (eq-eqb (code_number c) (code_number d) e, ne_eqb m n (λ g. h (let f : c ≡ d = code_inj c d e in cc)))
]

occurs_said : (x : R.Accepted) (l : List R.Accepted) → occurs (words x) (map words l) ≡ R.occurs x l
unfolding occurs R.occurs
occurs_said x [] = refl
occurs_said x (y ∷ l) = decided (R.AcceptedDiscrete CodeDiscrete ℕ_discrete x y) (occurs_said x l)
  where
    decided : (d : Dec (x ≡ y)) → occurs (words x) (map words l) ≡ R.occurs x l → occurs (words x) (words y ∷ map words l) ≡ elim d [ yes e ↦ 1 | no ne ↦ R.occurs x l ]
    decided (yes e) r = occurs_yes (words x) (words y) (map words l) (same_yes x y e)
    decided (no ne) r = occurs_no (words x) (words y) (map words l) (same_no x y ne) ∙ r

after_said : (l k : List R.Accepted) → repeats_after (map words l) (map words k) ≡ R.repeats_after l k
unfolding repeats_after R.repeats_after
after_said l [] = refl
after_said l (x ∷ k) = rw (occurs_said x l, after_said (x ∷ l) k)

accepted_said : {codes A C : List ℕ} {i : ℕ} {calls : List Call} {answers : List R.Answer} → CallsIn codes A C i calls answers → accepted codes A i (length calls) ≡ map words (R.accepted calls answers)
unfolding accepted R.accepted
accepted_said no_calls = refl
accepted_said {codes} {A} {C} (and_call {i = i} {call = c} {a = a} {calls = calls} {answers = answers} h r) = rw (accepted_said r) (decided (ℕ_discrete a.number 0))
  where
    decided : (d : Dec (a.number ≡ 0)) → with_call codes A i (map words (R.accepted calls answers)) ≡ map words (elim d [ yes e ↦ R.accept c.code a.row ∷ R.accepted calls answers | no ne ↦ R.accepted calls answers ])
    decided (yes e) = with_yes codes A i (map words (R.accepted calls answers)) (h.number ∙ e) ∙ rw (h.code, h.row)
    decided (no ne) = with_no codes A i (map words (R.accepted calls answers)) (λ e. ne (sym h.number ∙ e))

pub repeats_said : {codes A C : List ℕ} {calls : List Call} {answers : List R.Answer} → CallsIn codes A C 0 calls answers → repeats codes A (length calls) ≡ R.repeats_after [] (R.accepted calls answers)
unfolding repeats
repeats_said h = rw (accepted_said h) (after_said [] _)
