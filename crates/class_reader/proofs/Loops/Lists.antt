-- The lists of a class file that are read by a count.
use Rattle.std.proofs.Common.{ℕ, List, None, Result, refl}
use Rattle.jv_model.specs.Refusal.{Cause}
use Rattle.jv_model.specs.Input.{Input}
use Rattle.jv_model.specs.ClassData.{Const, Attr, Member}
use Rattle.jv_model.specs.ConstantPool.{class_tag}
use Rattle.jv_model.specs.ClassReading.{Owner, owner_behind, missing_fault, attribute_at, attributes_at, MemberKind, index_at, classes_at, member_at, members_at}
use Rattle.class_reader.proofs.Loops.Counted.{Kind, IsCounted}

-- of lists whose items have nothing to do with each other
abbrev plain : {A : Type 0} → (Input → Result (A × Input) Cause)
    → (ℕ → Input → Result (List A × Input) Cause) → Kind (Unit {0}) A
plain item_at items_at = record {
  item_at = λ known. item_at;
  behind = λ known item. known;
  items_at = λ known. items_at;
  fault = λ known. None;
}

abbrev pub classes_kind : List Const → Kind (Unit {0}) ℕ
classes_kind pool = plain (index_at pool class_tag) (classes_at pool)

pub classes : (pool : List Const) → IsCounted (classes_kind pool)
unfolding classes_at
classes pool = record { none = λ known input. refl; more = λ known count input. refl }

abbrev pub members_kind : List Const → MemberKind → Kind (Unit {0}) Member
members_kind pool kind = plain (member_at pool kind) (members_at pool kind)

pub members : (pool : List Const) (kind : MemberKind) → IsCounted (members_kind pool kind)
unfolding members_at
members pool kind = record { none = λ known input. refl; more = λ known count input. refl }

-- an attribute changes what its owner may still have
abbrev pub attributes_kind : List Const → Kind Owner Attr
attributes_kind pool = record {
  item_at = attribute_at pool;
  behind = λ owner attribute. owner_behind pool owner attribute.name;
  items_at = attributes_at pool;
  fault = missing_fault;
}

pub attributes : (pool : List Const) → IsCounted (attributes_kind pool)
unfolding attributes_at
attributes pool = record { none = λ known input. refl; more = λ known count input. refl }
