-- Three bytes, each of which may be missing.
use Rattle.std.proofs.Common.{◌≡◌, ◌+◌, arith}
use Rattle.std.proofs.lemmas.Result.{err_from_is_err_and}
use Rattle.syntax.specs.Told.{head_of}
use Rattle.syntax.specs.Heads.{head_not_code, head_no_dims, head_no_size}
use Rattle.syntax.proofs.Bytes.{found, missed, code_here, no_code_here, head_here}
use Rattle.syntax.proofs.scan.read_head.Goals as goal

pub returns-in_default : goal.returns-in_default
unfolding head_of
returns-in_default c =
    let n = no_code_here c.args.s.now c.args.from _ _ c.in_ok-first.ensures c.in_default.not-Some c.of.ensures in
    rw (head_not_code c.args.s.now c.args.from n.0 n.1)

pub returns-in_err-dims : goal.returns-in_err-dims
unfolding head_of
returns-in_err-dims c =
    let p = err_from_is_err_and c.from_residual-in_err-dims.result c.from_residual-in_err-dims.ensures.1 in
    let k = code_here c.args.s.now c.args.from _ _ c.in_ok-first.ensures c.in-Some.ensures in
    let m = missed c.args.s.now (c.args.from + 1) _ c.in_err-dims.ensures in
    rw (p.1, p.2, m.1, head_no_dims c.args.s.now c.args.from k.means k.here k.inside m.0)

pub returns-in_err-size : goal.returns-in_err-size
unfolding head_of
returns-in_err-size c =
    let p = err_from_is_err_and c.from_residual-in_err-size.result c.from_residual-in_err-size.ensures.1 in
    let k = code_here c.args.s.now c.args.from _ _ c.in_ok-first.ensures c.in-Some.ensures in
    let d = found c.args.s.now (c.args.from + 1) _ c.in_ok-dims.ensures in
    let m = missed c.args.s.now (c.args.from + 2) _ c.in_err-size.ensures in
    let two : c.args.from + 1 + 1 ≡ c.args.from + 2 = omega arith in
    rw (p.1, p.2, m.1, head_no_size c.args.s.now c.args.from k.means k.here d.0 (omega (arith, m.0)), two)

pub returns : goal.returns
returns c =
    let k = code_here c.args.s.now c.args.from _ _ c.in_ok-first.ensures c.in-Some.ensures in
    let d = found c.args.s.now (c.args.from + 1) _ c.in_ok-dims.ensures in
    let z = found c.args.s.now (c.args.from + 2) _ c.in_ok-size.ensures in
    head_here c.args.s.now c.args.from _ k z d.1
