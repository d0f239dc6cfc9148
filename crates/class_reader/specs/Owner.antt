-- What has attributes, and which are right there.
use Rattle.std.specs.Prelude.{◌≡◌, ℕ, List, true}
use Rattle.jv_model.specs.ClassData.{Const}
use Rattle.jv_model.specs.ConstantPool.{is_named}
use Rattle.jv_model.specs.Profile.{constant_value}
use Rattle.jv_model.specs.ClassReading as model
use Rattle.class_reader.specs.declared.attribute.Owner.{Owner}
use Rattle.class_reader.specs.declared.attribute.Owner.TheVariants.{Class, Field, Method}

-- which owner of the definitions an `Owner` is
abbrev pub owner_of : Owner → model.Owner
owner_of Class = model.the_class
owner_of (Field descriptor may_come) = model.the_field descriptor may_come
owner_of (Method flags is_due) = model.the_method flags is_due

-- a constant value has two bytes
abbrev pub IsRightCount : List Const → model.Owner → ℕ → ℕ → Type 0
IsRightCount pool (model.the_field descriptor may_come) name count =
    is_named pool constant_value name ≡ true → count ≡ 2
IsRightCount pool other name count = Unit {0}
