-- A cell's quote by those of its parts, which have lower numbers. Assumes nothing.
use Rattle.std.specs.Prelude.{◌≡◌, List, [], ℕ, zero, suc, ◌<◌, ◌≤◌}
use Rattle.std.proofs.Common.{sym, ap, ◌∙◌, arith, lt-ltb, le-ltb}
use Rattle.std.proofs.Math.Path.{fun_ext}
use Rattle.std.proofs.Math.Decide.{dec_lt}
use Rattle.writer.specs.Text.{Text}
use Rattle.quotes.specs.Quotes.{node, lower, quote_within, quote}

pub lower_yes : (i j : ℕ) (f : ℕ → Text) → j < i → lower i f j ≡ f j
unfolding lower
lower_yes i j f h = rw (lt-ltb _ _ h, lower)

pub lower_no : (i j : ℕ) (f : ℕ → Text) → i ≤ j → lower i f j ≡ []
unfolding lower
lower_no i j f h = rw (le-ltb _ _ h, lower)

lower_same : (i : ℕ) (f g : ℕ → Text) → ((j : ℕ) → j < i → f j ≡ g j) → (j : ℕ) → lower i f j ≡ lower i g j
lower_same i f g e j = elim (dec_lt j i) [
  | yes h ↦ lower_yes i j f h ∙ e j h ∙ sym (lower_yes i j g h)
  | no h ↦ (let l : i ≤ j = omega arith in lower_no i j f l ∙ sym (lower_no i j g l))
]

quote_enough : (C : List ℕ) (k m i : ℕ) → i < k → i < m → quote_within k C i ≡ quote_within m C i
unfolding quote_within
quote_enough C zero m i h l = absurd (let z : ⊥ = omega arith in z)
quote_enough C (suc k) zero i h l = absurd (let z : ⊥ = omega arith in z)
quote_enough C (suc k) (suc m) i h l =
    ap (λ f. node f C i) (fun_ext (lower_same i (quote_within k C) (quote_within m C) (λ j g. quote_enough C k m j (omega arith) (omega arith))))

-- A cell's quote by those of its parts.
pub quote_node : (C : List ℕ) (i : ℕ) → quote C i ≡ node (lower i (quote C)) C i
unfolding quote_within quote
quote_node C i = ap (λ f. node f C i) (fun_ext (lower_same i (quote_within i C) (quote C) (λ j g. quote_enough C i (suc j) j g (omega arith))))
