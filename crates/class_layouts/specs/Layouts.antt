-- Which layouts of the definitions a `ClassLayouts` has.
use Rattle.std.specs.Prelude.{◌≡◌, List, Option, Some, map, option_map}
use Rattle.jv_types.specs.Sequence.{Sequence}
use Rattle.jv_model.specs.Operand.{MemberReference}
use Rattle.world_model.specs.World.{World, Class, Field}
use Rattle.world_model.specs.LookUp.{Found}
use Rattle.world_model.specs.Layout.{layout}
use Rattle.class_world.specs.World.{field_at}
use Rattle.class_world.specs.declared.class_info.FieldPlace.{FieldPlace}
use Rattle.class_members.specs.Members.{cell_of}
use Rattle.heap_face.specs.declared.layout.Cell.{Cell}
use Rattle.class_layouts.specs.declared.layouts.ClassLayouts.{ClassLayouts}

-- a field that was found, as a member
abbrev pub field_found : Found Field → MemberReference
field_found found = record { class = found.class; name = found.member.name; descriptor = found.member.descriptor }

-- the field at a place, by the class that declares it
abbrev pub member_at : World → FieldPlace → Option MemberReference
member_at world place = option_map field_found (field_at world place)

-- what a field of that kind holds
abbrev pub cell_of_member : MemberReference → Cell
cell_of_member field = cell_of field.descriptor

pub record AreLayouts (world : World) (layouts : ClassLayouts) : Type 0 where
  -- the fields of each class are those of its layout, in order
  pub fields : map (λ (row : Sequence FieldPlace). map (member_at world) row.items) layouts.fields.items
      ≡ map (λ (c : Class). map Some (layout world c.name)) world.classes
  -- and its cells say what they hold
  pub cells : map (λ (row : Sequence Cell). row.items) layouts.layouts.classes.items
      ≡ map (λ (c : Class). map cell_of_member (layout world c.name)) world.classes
