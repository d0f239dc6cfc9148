-- Which refusal of the definitions a `Cause` is.
use Rattle.jv_types.specs.declared.refusal.LineKind.{LineKind}
use Rattle.jv_types.specs.declared.refusal.LineKind.TheVariants as line_kinds
use Rattle.jv_types.specs.declared.refusal.What.{What}
use Rattle.jv_types.specs.declared.refusal.What.TheVariants as whats
use Rattle.jv_types.specs.declared.refusal.Rule.{Rule}
use Rattle.jv_types.specs.declared.refusal.Rule.TheVariants as rules
use Rattle.jv_types.specs.declared.refusal.Cause.{Cause}
use Rattle.jv_types.specs.declared.refusal.Cause.TheVariants as causes
use Rattle.jv_model.specs.Refusal as model

abbrev pub line_kind_of : LineKind → model.LineKind
line_kind_of line_kinds.Text = model.not_text
line_kind_of line_kinds.Head = model.wrong_head
line_kind_of line_kinds.Word = model.unknown_word
line_kind_of line_kinds.Order = model.wrong_order
line_kind_of line_kinds.Count = model.wrong_count
line_kind_of line_kinds.Number = model.wrong_number
line_kind_of line_kinds.Label = model.wrong_label
line_kind_of line_kinds.Range = model.out_of_range
line_kind_of line_kinds.Many = model.too_many
line_kind_of line_kinds.Open = model.open_block
line_kind_of line_kinds.Main = model.wrong_main
line_kind_of line_kinds.Name = model.wrong_name

abbrev pub limited_of : What → model.Limited
limited_of whats.File = model.whole_file
limited_of whats.Total = model.all_files
limited_of whats.Pool = model.pool_entries
limited_of whats.Utf8 = model.text_run_bytes
limited_of whats.Interfaces = model.class_interfaces
limited_of whats.Fields = model.class_fields
limited_of whats.Methods = model.class_methods
limited_of whats.Attributes = model.attribute_list

abbrev pub rule_of : Rule → model.Rule
rule_of rules.Map = model.at_map
rule_of rules.After = model.after_flow
rule_of rules.Handler = model.at_handler
rule_of rules.Operand = model.at_operand
rule_of rules.Target = model.at_target
rule_of rules.End = model.at_end

abbrev pub cause_of : Cause → model.Cause
cause_of (causes.Truncated at) = model.truncated at
cause_of causes.Magic = model.wrong_magic
cause_of (causes.Version major) = model.wrong_version major
cause_of (causes.Pool index) = model.wrong_constant index
cause_of (causes.Utf8 index) = model.wrong_text index
cause_of (causes.Attribute at) = model.wrong_attribute at
cause_of (causes.Extra at) = model.extra_bytes at
cause_of (causes.Limit what n) = model.above_limit (limited_of what) n
cause_of (causes.Opcode method pc) = model.wrong_opcode method pc
cause_of (causes.Operand method pc) = model.wrong_operand method pc
cause_of (causes.Target method pc) = model.wrong_target method pc
cause_of (causes.Handler method row) = model.wrong_handler method row
cause_of (causes.MapFrame method index) = model.wrong_map_frame method index
cause_of (causes.Unsupported method pc) = model.unsupported method pc
cause_of (causes.FrameTooBig method words) = model.frame_too_big method words
cause_of (causes.Shape method at) = model.wrong_shape method at
cause_of (causes.CountLimit what n) = model.above_count (limited_of what) n
cause_of (causes.AsmLine line kind) = model.assembler_line line (line_kind_of kind)
cause_of (causes.Twice class) = model.twice class.items
cause_of (causes.Cycle class) = model.cyclic class.items
cause_of (causes.Unresolved class index) = model.unresolved class.items index
cause_of (causes.FinalOverride class) = model.final_override class.items
cause_of causes.NoMain = model.no_main
cause_of (causes.Descriptor class index) = model.wrong_descriptor class.items index
cause_of (causes.MethodKind class method) = model.wrong_method_kind class.items method
cause_of (causes.Reserved class) = model.reserved class.items
cause_of (causes.NotVerified class name descriptor pc rule) =
    model.not_verified class.items name.items descriptor.items pc (rule_of rule)
cause_of (causes.BundleLine line kind) = model.bundle_line line (line_kind_of kind)
cause_of (causes.BundleVersion n) = model.bundle_version n
cause_of (causes.Boot class) = model.boot_class class.items
cause_of (causes.Narrowed class lost) = model.narrowed class.items lost.items
cause_of (causes.KindChanged class) = model.kind_changed class.items
cause_of (causes.NoSuchMethod line) = model.no_such_method line
cause_of (causes.Transformer descriptor) = model.wrong_transformer descriptor.items
cause_of (causes.MapPoint line) = model.wrong_map_point line
cause_of (causes.ManifestLine line kind) = model.manifest_line line (line_kind_of kind)
cause_of causes.Later = model.later
cause_of (causes.Image at) = model.wrong_image at
cause_of (causes.NoPath part) = model.no_path part
cause_of (causes.ScriptLine line kind) = model.script_line line (line_kind_of kind)
