-- Fields and methods: what is read is one and spelled so, and what is one and spelled so is read.
use Rattle.std.proofs.Common.{ℕ, true, List, length, refl}
use Rattle.std.specs.List.{flat_map}
use Rattle.std.proofs.lemmas.List.{append-nil}
use Rattle.jv_model.specs.ClassData.{Const, Member}
use Rattle.jv_model.specs.ConstantPool.{utf8_tag}
use Rattle.jv_model.specs.ClassBytes.{u2, table, attribute_bytes, member_bytes}
use Rattle.jv_model.specs.Profile.{IsU2, has_code, IsMember, IsField, IsMethod}
use Rattle.jv_model.specs.ClassReading.{the_field, the_method, Owner, MemberKind, field, method, owner_of, attributes_at, member_at, members_at}
use Rattle.class_laws.proofs.Readers.{Spelling, Reads, Reads-as, Then, Reads-then, Reads-behind, Nothing, Reads-ok, Spelt, u2_reads, spelt_then, spelt_last, AreRight, Reads-list}
use Rattle.class_laws.proofs.Items.{IsIndex, index_reads, IsTable, Reads-table}
use Rattle.class_laws.proofs.AttributeRules.{OwnerAllows}
use Rattle.class_laws.proofs.Attributes.{AreAllowed, attributes_read}

abbrev IsMemberOf : List Const → MemberKind → Member → Type 0
IsMemberOf pool field member = IsField pool member
IsMemberOf pool method member = IsMethod pool member

-- with no more attributes than their count can say
abbrev pub IsCountedMember : List Const → MemberKind → Member → Type 0
IsCountedMember pool kind member = IsU2 (length member.attributes) × IsMemberOf pool kind member

-- whose attributes a member's are; its place doesn't matter
abbrev owner : MemberKind → ℕ → ℕ → Owner
owner kind flags descriptor = owner_of kind 0 flags descriptor

member_right : (pool : List Const) (kind : MemberKind) (member : Member) → IsMember pool member
    → OwnerAllows pool (owner kind member.flags member.descriptor) member.attributes
    → IsMemberOf pool kind member
member_right pool field member is allowed =
    record { member = is; values = allowed.0; at_most_one = allowed.1 }
member_right pool method member is allowed = record { member = is; one_code = allowed }

member_parts : (pool : List Const) (kind : MemberKind) (member : Member)
    → IsMemberOf pool kind member → IsMember pool member
    × OwnerAllows pool (owner kind member.flags member.descriptor) member.attributes
member_parts pool field member right = (right.member, (right.values, right.at_most_one))
member_parts pool method member right = (right.member, right.one_code)

placed_attributes : (pool : List Const) (kind : MemberKind) (place flags descriptor count : ℕ)
    → Reads (attributes_at pool (owner_of kind place flags descriptor) count)
    (Spelt (flat_map attribute_bytes) (AreAllowed pool (owner kind flags descriptor) count))
placed_attributes pool field place flags descriptor count =
    attributes_read pool (the_field descriptor true) count
placed_attributes pool method place flags descriptor count =
    attributes_read pool (the_method place (has_code flags)) count

abbrev MemberText : List Const → MemberKind → Spelling Member
MemberText pool kind =
    Then (Spelt u2 IsU2) (λ flags.
    Then (Spelt u2 (IsIndex pool utf8_tag)) (λ name.
    Then (Spelt u2 (IsIndex pool utf8_tag)) (λ descriptor.
    Then (Spelt (table attribute_bytes) (IsTable (AreAllowed pool (owner kind flags descriptor))))
    (λ attributes.
    Nothing (record {
      flags = flags;
      name = name;
      descriptor = descriptor;
      attributes = attributes;
    })))))

member_to : (pool : List Const) (kind : MemberKind) (at : ℕ) (text : List ℕ) (x : Member)
    → MemberText pool kind at text x → Spelt member_bytes (IsCountedMember pool kind) at text x
member_to pool kind at text x flags =
    let name = flags.others in
    let descriptor = name.others in
    let attributes = descriptor.others in
    let are = attributes.spelled.right in
    let made : Member = record {
      flags = flags.first;
      name = name.first;
      descriptor = descriptor.first;
      attributes = attributes.first;
    } in
    let is : IsMember pool made = record {
      flags = flags.spelled.right;
      name = name.spelled.right;
      descriptor = descriptor.spelled.right;
      attributes = are.1.1;
    } in
    rw attributes.others.1 (
    record {
      text_is = rw (
        flags.parts,
        flags.spelled.text_is,
        name.parts,
        name.spelled.text_is,
        descriptor.parts,
        descriptor.spelled.text_is,
        attributes.parts,
        attributes.spelled.text_is,
        attributes.others.0,
        append-nil (table attribute_bytes attributes.first),
      ) refl;
      right = (are.0, member_right pool kind made is are.1.2);
    })

member_from : (pool : List Const) (kind : MemberKind) (at : ℕ) (text : List ℕ) (x : Member)
    → Spelt member_bytes (IsCountedMember pool kind) at text x → MemberText pool kind at text x
member_from pool kind at text x spelt =
    let parts = member_parts pool kind x spelt.right.1 in
    let is = parts.0 in
    rw spelt.text_is (spelt_then x.flags _ is.flags
    (spelt_then x.name _ is.name (spelt_then x.descriptor _ is.descriptor
    (spelt_last x.attributes (spelt.right.0, (refl, is.attributes, parts.1)) (refl, refl)))))

member_reads : (pool : List Const) (kind : MemberKind)
    → Reads (member_at pool kind) (Spelt member_bytes (IsCountedMember pool kind))
unfolding member_at
member_reads pool kind =
    Reads-as (
    Reads-behind _ u2_reads (λ before flags.
    Reads-then _ (index_reads pool utf8_tag) (λ name.
    Reads-then _ (index_reads pool utf8_tag) (λ descriptor.
    Reads-table attribute_bytes _ (λ count items are. are.0)
    (placed_attributes pool kind before.at flags descriptor) (λ attributes.
    Reads-ok _)))))
    (member_to pool kind) (member_from pool kind)

pub members_read : (pool : List Const) (kind : MemberKind) (count : ℕ)
    → Reads (members_at pool kind count)
    (Spelt (flat_map member_bytes) (AreRight (IsCountedMember pool kind) count))
unfolding members_at
members_read pool kind = Reads-list member_bytes (IsCountedMember pool kind) (member_at pool kind)
    (members_at pool kind) (member_reads pool kind) (record { none = refl; more = λ count. refl })
