-- What a rule concludes is of the kind that the table of rules has, from at most ten premises: a test of the table of patterns, computed
-- once, and so a fact about every row that follows. No rule has a clause of its own.
use Rattle.std.specs.Prelude.{ℕ, suc, ◌≤◌, ◌≡◌, refl, Bool, true, false, ◌&&◌, List, [], ◌∷◌, map, T, eqb, leb, length}
use Rattle.std.proofs.Common.{sym, ◌∙◌, ap, arith, eqb→eq, leb→le}
use Rattle.walk.specs.Judgment.{Judgment, kind, arguments, ctx, dshiftctx, lookup, lt, le, max, interval, ishift, isubst, shift, subst, dshift, dsubst, has, eq, iend}
use Rattle.walk.specs.Rule.{kind_of}
use Rattle.walk.specs.Rules.{Follows}
use Rattle.rules.specs.Kinds.{sorts_of}
use Rattle.rules.specs.Sorts.{sort, sorted}
use Rattle.schemas.specs.Tree.{leaf, word, ◌·◌, Pattern, Env, instance}
use Rattle.schemas.specs.Code.{of_judgment, of_judgments, step}
use Rattle.schemas.specs.Table.{Line, pattern, lines}
use Rattle.schemas.specs.Follows.{Instance, here, there}
use Rattle.schemas.proofs.Follows.{complete}
use Rattle.schemas.specs.Concludes.{first, parts, starts, ends, place, names, most, fits, all_fit}

first_of : (e : Env) (p : Pattern) → T (starts p) → first (instance e p) ≡ first p
first_of e (leaf h) t = absurd t
first_of e (word w) t = refl
first_of e (f · a) t = first_of e f t

parts_of : (e : Env) (p : Pattern) → T (ends p) → parts (instance e p) ≡ parts p
parts_of e (leaf h) t = absurd t
parts_of e (word w) t = refl
parts_of e (f · a) t = ap suc (parts_of e a t)

-- A judgment begins with the name of its kind; a row has its conclusion and its premises.

begins : (j : Judgment) → place (first (of_judgment j)) names ≡ kind j
-- written by tools/written.py: kinds by name
begins (ctx d g) = refl
begins (dshiftctx g k h) = refl
begins (lookup g n A) = refl
begins (lt m n) = refl
begins (le m n) = refl
begins (max m n k) = refl
begins (interval d r) = refl
begins (ishift r k r') = refl
begins (isubst r k s r') = refl
begins (shift t k t') = refl
begins (subst t k s t') = refl
begins (dshift t k t') = refl
begins (dsubst t k r t') = refl
begins (has d g t A) = refl
begins (eq d g a b A) = refl
begins (iend r e) = refl

-- end of kinds by name

counted : (js : List Judgment) → parts (of_judgments js) ≡ length js
counted [] = refl
counted (j ∷ js) = ap suc (counted js)

computed : T (all_fit lines)
unfolding kind_of
computed = tt

-- and what it says

both : (a b : Bool) → T (a && b) → T a × T b
both true b t = (tt, t)
both false b t = absurd t

said : {n : ℕ} (js : List Judgment) (j : Judgment) (e : Env) (rule : ℕ) (p : Pattern) → T (fits rule p) → rule ≡ n → instance e p ≡ step js j → (kind j ≡ kind_of n) × (length js ≤ 10)
said js j e rule p t q i =
    let t₁ = both (starts p) _ t in
    let t₂ = both (ends p) _ t₁.1 in
    let t₃ = both (eqb (place (first p) names) (kind_of rule)) (leb (parts p) most) t₂.1 in
    let w : first (of_judgment j) ≡ first p = sym (ap first i) ∙ first_of e p t₁.0 in
    let m : suc (parts (of_judgments js)) ≡ parts p = sym (ap parts i) ∙ parts_of e p t₂.0 in
    let k = counted js in
    let l : parts p ≤ most = leb→le _ _ t₃.1 in
    (sym (begins j) ∙ ap (λ x. place x names) w ∙ eqb→eq _ _ t₃.0 ∙ ap kind_of q, omega arith)

said_in : {n : ℕ} (js : List Judgment) (j : Judgment) (ls : List Line) → T (all_fit ls) → Instance n (step js j) ls → (kind j ≡ kind_of n) × (length js ≤ 10)
said_in js j [] t x = elim x [ ]
said_in js j (l ∷ ls) t (here q e i) = said js j e l.rule (pattern l) (both (fits l.rule (pattern l)) _ t).0 q i
said_in js j (l ∷ ls) t (there x) = said_in js j ls (both (fits l.rule (pattern l)) _ t).1 x

pub concludes : {n : ℕ} {js : List Judgment} {j : Judgment} → Follows n js j → kind j ≡ kind_of n
concludes {js = js} {j = j} f = (said_in js j lines computed (complete f)).0

pub few_premises : {n : ℕ} {js : List Judgment} {j : Judgment} → Follows n js j → length js ≤ 10
few_premises {js = js} {j = j} f = (said_in js j lines computed (complete f)).1

-- What follows by a rule has the arguments of the kind that the rule concludes, no more and no fewer.
pub takes : {n : ℕ} {js : List Judgment} {j : Judgment} → Follows n js j → map sort (arguments j) ≡ sorts_of (kind_of n)
takes {j = j} f = sorted j ∙ ap sorts_of (concludes f)
