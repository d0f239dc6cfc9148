-- Mnemonics and the forms of lines as the definitions see them.
use Rattle.std.specs.Prelude.{ℕ, List, map}
use Rattle.assembler_model.specs.Mnemonics as model
use Rattle.assembler_model.specs.AssemblerLines as lines
use Rattle.asm_lines.specs.declared.mnemonic.OperandForm.{OperandForm}
use Rattle.asm_lines.specs.declared.mnemonic.OperandForm.TheVariants as forms
use Rattle.asm_lines.specs.declared.mnemonic.Mnemonic.{Mnemonic}

abbrev pub operand_form_of : OperandForm → model.OperandForm
operand_form_of forms.None = model.no_operand
operand_form_of forms.Local = model.a_local
operand_form_of forms.Byte = model.a_byte
operand_form_of forms.Short = model.a_short
operand_form_of forms.Branch = model.a_branch
operand_form_of forms.WideBranch = model.a_wide_branch
operand_form_of forms.Field = model.a_field
operand_form_of forms.Method = model.a_method
operand_form_of forms.InterfaceMethod = model.an_interface_method
operand_form_of forms.Class = model.a_class
operand_form_of forms.Constant = model.a_constant
operand_form_of forms.Long = model.a_long
operand_form_of forms.ArrayType = model.an_array_type
operand_form_of forms.Increment = model.an_increment
operand_form_of forms.Table = model.a_table
operand_form_of forms.Lookup = model.a_lookup

abbrev pub mnemonic_of : Mnemonic → model.Mnemonic
mnemonic_of mnemonic = record {
  word = mnemonic.word.now;
  opcode = mnemonic.opcode;
  form = operand_form_of mnemonic.form;
}
