use Rattle.boot_laws.proofs.Computed as laws
use Rattle.boot_laws.proofs.boot.boot_classes_hold.Goals as goal

pub returns : goal.returns
returns c = laws.boot_classes_hold
