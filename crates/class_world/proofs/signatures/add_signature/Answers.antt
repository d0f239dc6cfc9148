use Rattle.class_world.proofs.Spelling.{adds_signature}
use Rattle.class_world.proofs.signatures.add_signature.Goals as goal

pub returns : goal.returns
returns c =
    adds_signature _ _ _ _ _ _ _ _ _ _ c.in_ok-name_number.ensures.ok c.in_ok-name_number.ensures.number
    c.in_ok-descriptor_number.ensures.ok c.in_ok-descriptor_number.ensures.number c.in_ok-is_new.ensures.ok c.in_ok-is_new.ensures.is_new
