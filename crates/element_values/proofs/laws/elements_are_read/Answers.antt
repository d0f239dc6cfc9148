use Rattle.element_values.proofs.Elements as elements
use Rattle.element_values.proofs.laws.elements_are_read.Goals as goal

pub returns : goal.returns
returns c = elements.are_read
