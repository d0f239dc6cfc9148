-- What constants are to the verifier.
use Rattle.std.proofs.Common.{◌≡◌, Option, Some, None, refl}
use Rattle.jv_model.specs.Operand.{Operand, class_named, member_named, int_constant, long_constant, string_constant}
use Rattle.world_model.specs.BootNames.{java_string}
use Rattle.typing_model.specs.VerificationType as model
use Rattle.typing_model.specs.LocalTypes.{constant_type, wide_constant_type}
use Rattle.member_types.specs.declared.constants.Constant.{Constant}
use Rattle.member_types.specs.declared.constants.Constant.TheVariants.{Int, Long, Text}
use Rattle.member_types.specs.Constants.{constant_of}

abbrev pub narrow_type : Option Constant → Option model.VerificationType
narrow_type (Some Int) = Some model.int
narrow_type (Some Text) = Some (model.class java_string)
narrow_type (Some Long) = None
narrow_type None = None

abbrev pub wide_type : Option Constant → Option model.VerificationType
wide_type (Some Long) = Some model.long
wide_type (Some Int) = None
wide_type (Some Text) = None
wide_type None = None

pub narrow-is : (operand : Operand) → constant_type operand ≡ narrow_type (constant_of operand)
narrow-is (class_named name) = refl
narrow-is (member_named member) = refl
narrow-is (int_constant number) = refl
narrow-is (long_constant number) = refl
narrow-is (string_constant text) = refl

pub wide-is : (operand : Operand) → wide_constant_type operand ≡ wide_type (constant_of operand)
wide-is (class_named name) = refl
wide-is (member_named member) = refl
wide-is (int_constant number) = refl
wide-is (long_constant number) = refl
wide-is (string_constant text) = refl
