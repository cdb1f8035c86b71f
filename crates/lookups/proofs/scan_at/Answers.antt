-- The entry is that of the scan in every list.
use Rattle.std.proofs.Common.{refl}
use Rattle.lookups.proofs.Answers.{is_scan_lem}
use Rattle.lookups.proofs.scan_at.Goals as goal

pub returns : goal.returns
returns c = is_scan_lem _ _ _ _ _ _ refl refl refl
