use Rattle.class_methods.proofs.Numbering.{gives_number}
use Rattle.class_methods.proofs.filling.number_signature.Goals as goal

pub returns : goal.returns
returns c =
    gives_number _ _ _ _ _ _ _ _ _ _ _ c.in_ok-name_number.ensures.ok c.in_ok-name_number.ensures.number
    c.in_ok-descriptor_number.ensures.ok c.in_ok-descriptor_number.ensures.number c.in_ok-add.ensures.ok c.in_ok-add.ensures.is_new
    c.in-Some.ensures.number
