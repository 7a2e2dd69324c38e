-- Made by tools/prove.py: to make it again, run `python3 tools/prove.py run`.
use Rattle.ast.specs.Words.{up}
use Rattle.run.specs.Build.{built_body, built_one, built_three, built_two, follows_number}
use Rattle.run.proofs.At as law
use Rattle.run.proofs.Steps.{steps}
use Rattle.run.proofs.build.+build.Goals as goal

pub build-returns-then-left-eq0 : goal.build-returns-then-left-eq0
unfolding built_body up follows_number steps
build-returns-then-left-eq0 t c = rw (law.built_none _ _ _ _ c.if-left-eq0.true, c.refused.ensures)

pub build-returns-in_err-s-in-Some-Nothing : goal.build-returns-in_err-s-in-Some-Nothing
unfolding built_body up follows_number steps
build-returns-in_err-s-in-Some-Nothing t c = rw (law.built_in _ _ _ _ c.if-left-eq0.false, ← c.byte-kind.ensures, ← c.parts.ensures, c.in-Some-Nothing.is, c.in-Some-Nothing.field-0-is, law.node c.of_words-node.ensures)
    (rw (law.residual _ _ c.from_residual.ensures.1, ← c.in_err-s-in-Some-Nothing.ensures))

pub build-returns-in_err-s-in-Some-Number : goal.build-returns-in_err-s-in-Some-Number
unfolding built_body up follows_number steps
build-returns-in_err-s-in-Some-Number t c = rw (law.built_in _ _ _ _ c.if-left-eq0.false, ← c.byte-kind.ensures, ← c.parts.ensures, c.in-Some-Number.is, c.in-Some-Number.field-0-is, ← c.byte.ensures)
    (rw (law.node c.of_words-node-in-Some-Number.ensures, law.residual _ _ c.from_residual-in_err-s-in-Some-Number.ensures.1, ← c.in_err-s-in-Some-Number.ensures))

pub build-returns-in_ok-s-in-Some-Nothing : goal.build-returns-in_ok-s-in-Some-Nothing
unfolding built_body up follows_number steps
build-returns-in_ok-s-in-Some-Nothing t c = rw (law.built_in _ _ _ _ c.if-left-eq0.false, ← c.byte-kind.ensures, ← c.parts.ensures, c.in-Some-Nothing.is, c.in-Some-Nothing.field-0-is, law.node c.of_words-node.ensures)
    (rw (← c.in_ok-s-in-Some-Nothing.ensures))

pub build-returns-in_ok-s-in-Some-Number : goal.build-returns-in_ok-s-in-Some-Number
unfolding built_body up follows_number steps
build-returns-in_ok-s-in-Some-Number t c = rw (law.built_in _ _ _ _ c.if-left-eq0.false, ← c.byte-kind.ensures, ← c.parts.ensures, c.in-Some-Number.is, c.in-Some-Number.field-0-is, ← c.byte.ensures)
    (rw (law.node c.of_words-node-in-Some-Number.ensures, ← c.in_ok-s-in-Some-Number.ensures))

pub build-returns-in-Some-One : goal.build-returns-in-Some-One
unfolding built_body up follows_number steps
build-returns-in-Some-One t c = rw (law.built_in _ _ _ _ c.if-left-eq0.false, ← c.byte-kind.ensures, ← c.parts.ensures, c.in-Some-One.is, c.in-Some-One.field-0-is, ← c.one.ensures)

pub build-returns-in-Some-Two : goal.build-returns-in-Some-Two
unfolding built_body up follows_number steps
build-returns-in-Some-Two t c = rw (law.built_in _ _ _ _ c.if-left-eq0.false, ← c.byte-kind.ensures, ← c.parts.ensures, c.in-Some-Two.is, c.in-Some-Two.field-0-is, ← c.two.ensures)

pub build-returns-in-Some-Three : goal.build-returns-in-Some-Three
unfolding built_body up follows_number steps
build-returns-in-Some-Three t c = rw (law.built_in _ _ _ _ c.if-left-eq0.false, ← c.byte-kind.ensures, ← c.parts.ensures, c.in-Some-Three.is, c.in-Some-Three.field-0-is, ← c.three.ensures)

pub build-returns-in-None : goal.build-returns-in-None
unfolding built_body up follows_number steps
build-returns-in-None t c = rw (law.built_in _ _ _ _ c.if-left-eq0.false, ← c.byte-kind.ensures, ← c.parts.ensures, c.in-None.is, c.refused-in-None.ensures)

pub one-returns-in_err-s1 : goal.one-returns-in_err-s1
unfolding built_one steps
one-returns-in_err-s1 t c = rw (law.residual _ _ c.from_residual.ensures.1, ← c.in_err-s1.ensures)

pub one-returns-in_err-s : goal.one-returns-in_err-s
unfolding built_one steps
one-returns-in_err-s t c = rw (← c.in_ok-s1.ensures, law.node c.of_words.ensures, law.residual _ _ c.from_residual-in_err-s.ensures.1, ← c.in_err-s.ensures)

pub one-returns : goal.one-returns
unfolding built_one steps
one-returns t c = rw (← c.in_ok-s1.ensures, law.node c.of_words.ensures, ← c.in_ok-s.ensures)

pub three-returns-in_err-s1 : goal.three-returns-in_err-s1
unfolding built_three steps
three-returns-in_err-s1 t c = rw (law.residual _ _ c.from_residual.ensures.1, ← c.in_err-s1.ensures)

pub three-returns-in_err-s2 : goal.three-returns-in_err-s2
unfolding built_three steps
three-returns-in_err-s2 t c = rw (← c.in_ok-s1.ensures, law.residual _ _ c.from_residual-in_err-s2.ensures.1, ← c.in_err-s2.ensures)

pub three-returns-in_err-s3 : goal.three-returns-in_err-s3
unfolding built_three steps
three-returns-in_err-s3 t c = rw (← c.in_ok-s1.ensures, ← c.in_ok-s2.ensures, law.residual _ _ c.from_residual-in_err-s3.ensures.1, ← c.in_err-s3.ensures)

pub three-returns-in_err-s : goal.three-returns-in_err-s
unfolding built_three steps
three-returns-in_err-s t c = rw (← c.in_ok-s1.ensures, ← c.in_ok-s2.ensures, ← c.in_ok-s3.ensures, law.node c.of_words.ensures, law.residual _ _ c.from_residual-in_err-s.ensures.1, ← c.in_err-s.ensures)

pub three-returns : goal.three-returns
unfolding built_three steps
three-returns t c = rw (← c.in_ok-s1.ensures, ← c.in_ok-s2.ensures, ← c.in_ok-s3.ensures, law.node c.of_words.ensures, ← c.in_ok-s.ensures)

pub two-returns-in_err-s1 : goal.two-returns-in_err-s1
unfolding built_two steps
two-returns-in_err-s1 t c = rw (law.residual _ _ c.from_residual.ensures.1, ← c.in_err-s1.ensures)

pub two-returns-in_err-s2 : goal.two-returns-in_err-s2
unfolding built_two steps
two-returns-in_err-s2 t c = rw (← c.in_ok-s1.ensures, law.residual _ _ c.from_residual-in_err-s2.ensures.1, ← c.in_err-s2.ensures)

pub two-returns-in_err-s : goal.two-returns-in_err-s
unfolding built_two steps
two-returns-in_err-s t c = rw (← c.in_ok-s1.ensures, ← c.in_ok-s2.ensures, law.node c.of_words.ensures, law.residual _ _ c.from_residual-in_err-s.ensures.1, ← c.in_err-s.ensures)

pub two-returns : goal.two-returns
unfolding built_two steps
two-returns t c = rw (← c.in_ok-s1.ensures, ← c.in_ok-s2.ensures, law.node c.of_words.ensures, ← c.in_ok-s.ensures)
