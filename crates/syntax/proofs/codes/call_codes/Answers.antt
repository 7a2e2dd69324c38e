-- A run that is refused has no codes, and one that is read has its calls'.
use Rattle.syntax.proofs.Coded.{readable}
use Rattle.syntax.proofs.codes.call_codes.Goals as goal

pub put_codes-requires : goal.put_codes-requires
put_codes-requires c = readable _ _ c.in-Ok.ensures
