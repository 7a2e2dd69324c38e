use Rattle.std.proofs.Common.{◌≡◌, ◌+◌, ◌≤◌, ℕ, List, [], ◌∷◌, length, suc, ap, ◌∙◌, refl, sym, drop-cons, drop_of_length-le, arith}
use Rattle.std.proofs.lemmas.List.{set_past}
use Rattle.std.proofs.lemmas.List.Edits.{sets}
use Rattle.ast.proofs.words.put_all.Goals as goal

pub loop-k-preserved : goal.loop-k-preserved
loop-k-preserved c =
    let next : c.loop-k.k + 1 ≡ suc c.loop-k.k = omega arith in
    let place : c.args.i + suc c.loop-k.k ≡ suc (c.args.i + c.loop-k.k) = omega arith in
    rw (next, place, c.put.ensures) (c.loop-k.invariant ∙ ap (sets c.loop-k.words (c.args.i + c.loop-k.k)) (drop-cons c.args.values.now c.loop-k.k 0 c.loop-k-test.true))

pub returns-after-loop-k : goal.returns-after-loop-k
returns-after-loop-k c = rw (c.loop-k.invariant, drop_of_length-le c.args.values.now c.loop-k-test.false)

-- past the end nothing is stored
sets_past : (vs S : List ℕ) (i : ℕ) → length S ≤ i → sets S i vs ≡ S
sets_past [] S i h = refl
sets_past (v ∷ vs) S i h = rw (set_past S i v h) (sets_past vs S (suc i) (omega (arith, h)))

pub returns-else-i-words : goal.returns-else-i-words
returns-else-i-words c = sym (sets_past c.args.values.now c.args.words.now c.args.i c.if-i-words.false)
