-- Entries of the pool are compared as the definitions compare them.
use Rattle.std.proofs.Common.{◌≡◌, ℕ, ℤ, List, Bool, true, false, refl, ap, sym, ◌∙◌, arith, Bor}
use Rattle.std.specs.Prelude.{◌&&◌, bytes_eq, int_le}
use Rattle.std.specs.Ordering.{int_eq}
use Rattle.std.proofs.lemmas.Int.{ints}
use Rattle.std.proofs.Math.Bool.{and_comm}
use Rattle.std.proofs.lemmas.Slice.Eq.{bytes_eq-Decides}
use Rattle.std.proofs.lemmas.Bool.Decides.{Decides-int_eq}
use Rattle.jv_model.specs.Operand as operands
use Rattle.assembler_model.specs.PoolEntries.{same_entry, same_int, same_kind, same_reference}
use Rattle.asm_lines.specs.Terms.{name_of, kind_of, reference_of}
use Rattle.asm_lines.specs.declared.term.ReferenceKind.{ReferenceKind}
use Rattle.asm_lines.specs.declared.term.ReferenceKind.TheVariants.{Field, Method, InterfaceMethod}
use Rattle.asm_lines.specs.declared.term.MemberReference.{MemberReference}
use Rattle.asm_lines.specs.contracts.term.ReferenceKindPartialEq as kinds
use Rattle.asm_lines.specs.contracts.term.MemberReferencePartialEq as references
use Rattle.asm_parts.specs.declared.entry.Entry.{Entry}
use Rattle.asm_parts.specs.declared.entry.Entry.TheVariants.{Text, Int, Long, Class, String, NameAndType, Member}
use Rattle.asm_parts.specs.contracts.entry.EntryPartialEq as equality
use Rattle.asm_parts.specs.Entries.{entry_of, has_texts, is_text}
use Rattle.asm_parts.proofs.UnitLemmas.{both, bytes_eq-comm, same_units}

-- what `==` of entries computes
abbrev pub eq : Entry → Entry → Bool
eq a b = equality.TheImpl.eq-value.it a b

eq_kind : (a b : ReferenceKind) → kinds.TheImpl.eq-value.it a b ≡ same_kind (kind_of a) (kind_of b)
eq_kind Field Field = refl
eq_kind Field Method = refl
eq_kind Field InterfaceMethod = refl
eq_kind Method Field = refl
eq_kind Method Method = refl
eq_kind Method InterfaceMethod = refl
eq_kind InterfaceMethod Field = refl
eq_kind InterfaceMethod Method = refl
eq_kind InterfaceMethod InterfaceMethod = refl

eq_int : (a b : ℤ) → int_eq a b ≡ same_int a b
eq_int a b = grind (arith, ints)

-- names with these units
eq_name : (a b : Bor (List ℕ)) → is_text a ≡ true → is_text b ≡ true → bytes_eq a.now b.now ≡ bytes_eq (name_of a) (name_of b)
eq_name a b a-is b-is = same_units a.now b.now a-is b-is

eq_names : (a b c d : Bor (List ℕ)) → (is_text a && is_text b) ≡ true → (is_text c && is_text d) ≡ true
    → (bytes_eq a.now c.now && bytes_eq b.now d.now) ≡ (bytes_eq (name_of a) (name_of c) && bytes_eq (name_of b) (name_of d))
eq_names a b c d first second =
    let f = both (is_text a) (is_text b) first in
    let s = both (is_text c) (is_text d) second in
    rw (eq_name a c f.0 s.0, eq_name b d f.1 s.1)

and-and : (a b c : Bool) → (a && (b && c)) ≡ ((a && b) && c)
and-and true b c = refl
and-and false b c = refl

eq_reference : (a b : MemberReference)
    → (is_text a.class && (is_text a.name && is_text a.descriptor)) ≡ true
    → (is_text b.class && (is_text b.name && is_text b.descriptor)) ≡ true
    → references.TheImpl.eq-value.it a b ≡ same_reference (reference_of a) (reference_of b)
eq_reference a b first second =
    let f = both (is_text a.class) (is_text a.name && is_text a.descriptor) first in
    let g = both (is_text a.name) (is_text a.descriptor) f.1 in
    let s = both (is_text b.class) (is_text b.name && is_text b.descriptor) second in
    let t = both (is_text b.name) (is_text b.descriptor) s.1 in
    rw (← eq_name a.class b.class f.0 s.0, ← eq_name a.name b.name g.0 t.0, ← eq_name a.descriptor b.descriptor g.1 t.1)
    (and-and (bytes_eq a.class.now b.class.now) (bytes_eq a.name.now b.name.now) (bytes_eq a.descriptor.now b.descriptor.now))

-- an entry is found in the pool as the definitions find it
pub eq_is : (a b : Entry) → has_texts a ≡ true → has_texts b ≡ true → eq a b ≡ same_entry (entry_of a) (entry_of b)
unfolding same_entry
eq_is (Text a) (Text c) first second = eq_name a c first second
eq_is (Text a) (Int c) first second = refl
eq_is (Text a) (Long c) first second = refl
eq_is (Text a) (Class c) first second = refl
eq_is (Text a) (String c) first second = refl
eq_is (Text a) (NameAndType c d) first second = refl
eq_is (Text a) (Member c d) first second = refl
eq_is (Int a) (Text c) first second = refl
eq_is (Int a) (Int c) first second = eq_int a c
eq_is (Int a) (Long c) first second = refl
eq_is (Int a) (Class c) first second = refl
eq_is (Int a) (String c) first second = refl
eq_is (Int a) (NameAndType c d) first second = refl
eq_is (Int a) (Member c d) first second = refl
eq_is (Long a) (Text c) first second = refl
eq_is (Long a) (Int c) first second = refl
eq_is (Long a) (Long c) first second = eq_int a c
eq_is (Long a) (Class c) first second = refl
eq_is (Long a) (String c) first second = refl
eq_is (Long a) (NameAndType c d) first second = refl
eq_is (Long a) (Member c d) first second = refl
eq_is (Class a) (Text c) first second = refl
eq_is (Class a) (Int c) first second = refl
eq_is (Class a) (Long c) first second = refl
eq_is (Class a) (Class c) first second = eq_name a c first second
eq_is (Class a) (String c) first second = refl
eq_is (Class a) (NameAndType c d) first second = refl
eq_is (Class a) (Member c d) first second = refl
eq_is (String a) (Text c) first second = refl
eq_is (String a) (Int c) first second = refl
eq_is (String a) (Long c) first second = refl
eq_is (String a) (Class c) first second = refl
eq_is (String a) (String c) first second = eq_name a c first second
eq_is (String a) (NameAndType c d) first second = refl
eq_is (String a) (Member c d) first second = refl
eq_is (NameAndType a b) (Text c) first second = refl
eq_is (NameAndType a b) (Int c) first second = refl
eq_is (NameAndType a b) (Long c) first second = refl
eq_is (NameAndType a b) (Class c) first second = refl
eq_is (NameAndType a b) (String c) first second = refl
eq_is (NameAndType a b) (NameAndType c d) first second = eq_names a b c d first second
eq_is (NameAndType a b) (Member c d) first second = refl
eq_is (Member a b) (Text c) first second = refl
eq_is (Member a b) (Int c) first second = refl
eq_is (Member a b) (Long c) first second = refl
eq_is (Member a b) (Class c) first second = refl
eq_is (Member a b) (String c) first second = refl
eq_is (Member a b) (NameAndType c d) first second = refl
eq_is (Member a b) (Member c d) first second = rw (← eq_kind a c, ← eq_reference b d first second) refl

int-comm : (a b : ℤ) → same_int a b ≡ same_int b a
int-comm a b = and_comm (int_le a b) (int_le b a)

kind-comm : (a b : ReferenceKind) → same_kind (kind_of a) (kind_of b) ≡ same_kind (kind_of b) (kind_of a)
kind-comm Field Field = refl
kind-comm Field Method = refl
kind-comm Field InterfaceMethod = refl
kind-comm Method Field = refl
kind-comm Method Method = refl
kind-comm Method InterfaceMethod = refl
kind-comm InterfaceMethod Field = refl
kind-comm InterfaceMethod Method = refl
kind-comm InterfaceMethod InterfaceMethod = refl

-- either way round
pub same-comm : (a b : Entry) → same_entry (entry_of a) (entry_of b) ≡ same_entry (entry_of b) (entry_of a)
unfolding same_entry
same-comm (Text a) (Text c) = bytes_eq-comm (name_of a) (name_of c)
same-comm (Text a) (Int c) = refl
same-comm (Text a) (Long c) = refl
same-comm (Text a) (Class c) = refl
same-comm (Text a) (String c) = refl
same-comm (Text a) (NameAndType c d) = refl
same-comm (Text a) (Member c d) = refl
same-comm (Int a) (Text c) = refl
same-comm (Int a) (Int c) = int-comm a c
same-comm (Int a) (Long c) = refl
same-comm (Int a) (Class c) = refl
same-comm (Int a) (String c) = refl
same-comm (Int a) (NameAndType c d) = refl
same-comm (Int a) (Member c d) = refl
same-comm (Long a) (Text c) = refl
same-comm (Long a) (Int c) = refl
same-comm (Long a) (Long c) = int-comm a c
same-comm (Long a) (Class c) = refl
same-comm (Long a) (String c) = refl
same-comm (Long a) (NameAndType c d) = refl
same-comm (Long a) (Member c d) = refl
same-comm (Class a) (Text c) = refl
same-comm (Class a) (Int c) = refl
same-comm (Class a) (Long c) = refl
same-comm (Class a) (Class c) = bytes_eq-comm (name_of a) (name_of c)
same-comm (Class a) (String c) = refl
same-comm (Class a) (NameAndType c d) = refl
same-comm (Class a) (Member c d) = refl
same-comm (String a) (Text c) = refl
same-comm (String a) (Int c) = refl
same-comm (String a) (Long c) = refl
same-comm (String a) (Class c) = refl
same-comm (String a) (String c) = bytes_eq-comm (name_of a) (name_of c)
same-comm (String a) (NameAndType c d) = refl
same-comm (String a) (Member c d) = refl
same-comm (NameAndType a b) (Text c) = refl
same-comm (NameAndType a b) (Int c) = refl
same-comm (NameAndType a b) (Long c) = refl
same-comm (NameAndType a b) (Class c) = refl
same-comm (NameAndType a b) (String c) = refl
same-comm (NameAndType a b) (NameAndType c d) = rw (bytes_eq-comm (name_of a) (name_of c), bytes_eq-comm (name_of b) (name_of d))
same-comm (NameAndType a b) (Member c d) = refl
same-comm (Member a b) (Text c) = refl
same-comm (Member a b) (Int c) = refl
same-comm (Member a b) (Long c) = refl
same-comm (Member a b) (Class c) = refl
same-comm (Member a b) (String c) = refl
same-comm (Member a b) (NameAndType c d) = refl
same-comm (Member a b) (Member c d) = rw (kind-comm a c, bytes_eq-comm (name_of b.class) (name_of d.class), bytes_eq-comm (name_of b.name) (name_of d.name), bytes_eq-comm (name_of b.descriptor) (name_of d.descriptor))

bytes-self : (a : List ℕ) → bytes_eq a a ≡ true
bytes-self a = (bytes_eq-Decides a a).1 refl

int-self : (a : ℤ) → int_eq a a ≡ true
int-self a = (Decides-int_eq a a).1 refl

kind-self : (a : ReferenceKind) → kinds.TheImpl.eq-value.it a a ≡ true
kind-self Field = refl
kind-self Method = refl
kind-self InterfaceMethod = refl

-- an entry is equal to itself
pub eq-self : (a : Entry) → eq a a ≡ true
eq-self (Text a) = bytes-self a.now
eq-self (Int a) = int-self a
eq-self (Long a) = int-self a
eq-self (Class a) = bytes-self a.now
eq-self (String a) = bytes-self a.now
eq-self (NameAndType a b) = rw (bytes-self a.now, bytes-self b.now)
eq-self (Member a b) = rw (kind-self a, bytes-self b.class.now, bytes-self b.name.now, bytes-self b.descriptor.now)
