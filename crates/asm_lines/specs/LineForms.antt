-- The form of a line as the definitions see it.
use Rattle.std.specs.Prelude.{ℕ, List, Option, option_map}
use Rattle.assembler_model.specs.Mnemonics.{mnemonic_of}
use Rattle.assembler_model.specs.AssemblerLines as model
use Rattle.asm_lines.specs.Forms.{operand_form_of}
use Rattle.asm_lines.specs.declared.form.LineForm.{LineForm}
use Rattle.asm_lines.specs.declared.form.LineForm.TheVariants as forms

abbrev pub form_of : LineForm → model.LineForm
form_of forms.Class = model.class_form
form_of forms.Flags = model.flags_form
form_of forms.Implements = model.implements_form
form_of forms.Field = model.field_form
form_of forms.Method = model.method_form
form_of forms.Attribute = model.attribute_form
form_of forms.Stack = model.stack_form
form_of forms.End = model.end_form
form_of forms.At = model.at_form
form_of forms.Frame = model.frame_form
form_of forms.Catch = model.catch_form
form_of (forms.Operation opcode form) = model.operation_form opcode (operand_form_of form)

-- the form of a mnemonic's line
abbrev pub operation_form : List ℕ → Option model.LineForm
operation_form word =
    option_map (λ mnemonic. model.operation_form mnemonic.opcode mnemonic.form) (mnemonic_of word)

abbrev pub form_if_any : Option LineForm → Option model.LineForm
form_if_any form = option_map form_of form
