-- Class files: what is read is one and spelled so, and what is one and spelled so is read. So bytes
-- spell one class file at the most.
use Rattle.std.proofs.Common.{◌≡◌, ℕ, ◌+◌, ◌≤◌, List, [], ◌∷◌, ◌++◌, length, eqb, leb, Ok, Err, refl, sym, ap, subst, ◌∙◌, inl, inr, IsTrue, arith}
use Rattle.std.specs.List.{AllByRecursion}
use Rattle.std.proofs.lemmas.Bool.{eqb-true, leb-true, le-leb, or_cases}
use Rattle.std.proofs.lemmas.List.{append-nil, nil_from_length}
use Rattle.jv_model.specs.Limits.{most_file_bytes}
use Rattle.jv_model.specs.Refusal.{Cause, wrong_magic, extra_bytes, above_limit, whole_file}
use Rattle.jv_model.specs.Fallible.{where_true}
use Rattle.jv_model.specs.Input.{Input, whole_of}
use Rattle.jv_model.specs.ClassData.{Const, Member, ClassData}
use Rattle.jv_model.specs.ConstantPool.{class_tag}
use Rattle.jv_model.specs.ClassBytes.{u2, u4, table, attribute_bytes, member_bytes, constant_bytes, magic_number, class_bytes}
use Rattle.jv_model.specs.Profile.{IsU2, IsU4, is_version, IsField, IsMethod, IsClassFile, SpellsClass}
use Rattle.jv_model.specs.ClassReading.{the_class, field, method, versions_at, class_body_at, class_at, class_of}
use Rattle.class_laws.specs.Laws.{FitsCounts}
use Rattle.class_laws.proofs.Numbers.{IsBytes, bind_ok, ok_is}
use Rattle.class_laws.proofs.Readers.{Spelling, Reads, Reads-as, Then, Reads-then, Nothing, Reads-ok, Holding, Reads-where, where_ends, where_ok, where_then, where_again, Spelt, u2_reads, u4_reads, spelt_then, spelt_last, AreRight}
use Rattle.class_laws.proofs.Counts.{texts_fit, texts_within, within, fit}
use Rattle.class_laws.proofs.Items.{IsIndex, index_reads, classes_read, IsTable, Reads-table}
use Rattle.class_laws.proofs.Pool.{PoolText, pool_reads, IsCountedPool, pool_to, pool_from}
use Rattle.class_laws.proofs.Attributes.{AreAllowed, attributes_read}
use Rattle.class_laws.proofs.Members.{IsCountedMember, members_read}

-- ---- the versions

abbrev versions_bytes : ℕ × ℕ → List ℕ
versions_bytes versions = u4 magic_number ++ (u2 versions.0 ++ u2 versions.1)

abbrev AreVersions : ℕ × ℕ → Type 0
AreVersions versions = IsU2 versions.0 × IsTrue (is_version versions.1)

version_fits : (major : ℕ) → IsTrue (is_version major) → IsU2 major
version_fits major is = elim (or_cases (eqb major 51) (eqb major 52) is) [
  | inl old ↦ (let same = eqb-true major 51 old in omega arith)
  | inr new ↦
      (let same = eqb-true major 52 new in omega arith)
]

abbrev VersionsText : Spelling (ℕ × ℕ)
VersionsText =
    Then (Spelt u4 IsU4) (λ magic. Holding (IsTrue (eqb magic magic_number)) (
    Then (Spelt u2 IsU2) (λ minor.
    Then (Spelt u2 IsU2) (λ major. Holding (IsTrue (is_version major)) (Nothing (minor, major))))))

versions_to : (at : ℕ) (text : List ℕ) (x : ℕ × ℕ) → VersionsText at text x
    → Spelt versions_bytes AreVersions at text x
versions_to at text x magic =
    let is_magic : magic.first ≡ magic_number = eqb-true magic.first magic_number magic.others.0 in
    let minor = magic.others.1 in
    let major = minor.others in
    rw major.others.1.1 (
    record {
      text_is = rw (
        magic.parts,
        magic.spelled.text_is,
        is_magic,
        minor.parts,
        minor.spelled.text_is,
        major.parts,
        major.spelled.text_is,
        major.others.1.0,
        append-nil (u2 major.first),
      ) refl;
      right = (minor.spelled.right, major.others.0);
    })

versions_from : (at : ℕ) (text : List ℕ) (x : ℕ × ℕ) → Spelt versions_bytes AreVersions at text x
    → VersionsText at text x
versions_from at text x spelt =
    rw spelt.text_is (spelt_then magic_number _ (omega arith) (
      refl,
      spelt_then x.0 _ spelt.right.0
          (spelt_last x.1 (version_fits x.1 spelt.right.1) (spelt.right.1, (refl, refl))),
    ))

versions_reads : Reads versions_at (Spelt versions_bytes AreVersions)
unfolding versions_at
versions_reads =
    Reads-as (
    Reads-then _ u4_reads (λ magic.
    Reads-where _ (eqb magic magic_number) wrong_magic (
    Reads-then _ u2_reads (λ minor.
    Reads-then _ u2_reads (λ major.
    where_ends (is_version major) _ (minor, major))))))
    versions_to versions_from

-- ---- what stands behind the pool

abbrev BodyText : ℕ → ℕ → List Const → Spelling ClassData
BodyText minor major pool =
    Then (Spelt u2 IsU2) (λ flags.
    Then (Spelt u2 (IsIndex pool class_tag)) (λ this.
    Then (Spelt u2 (IsIndex pool class_tag)) (λ super.
    Then (Spelt (table u2) (IsTable (AreRight (IsIndex pool class_tag)))) (λ interfaces.
    Then (Spelt (table member_bytes) (IsTable (AreRight (IsCountedMember pool field)))) (λ fields.
    Then (Spelt (table member_bytes) (IsTable (AreRight (IsCountedMember pool method)))) (λ methods.
    Then (Spelt (table attribute_bytes) (IsTable (AreAllowed pool the_class))) (λ attributes.
    Nothing (record {
      minor = minor;
      major = major;
      pool = pool;
      flags = flags;
      this_class = this;
      super_class = super;
      interfaces = interfaces;
      fields = fields;
      methods = methods;
      attributes = attributes;
    }))))))))

body_reads : (minor major : ℕ) (pool : List Const)
    → Reads (class_body_at minor major pool) (BodyText minor major pool)
unfolding class_body_at
body_reads minor major pool =
    Reads-then _ u2_reads (λ flags.
    Reads-then _ (index_reads pool class_tag) (λ this.
    Reads-then _ (index_reads pool class_tag) (λ super.
    Reads-table u2 _ (λ count items are. are.0) (classes_read pool) (λ interfaces.
    Reads-table member_bytes _ (λ count items are. are.0) (members_read pool field) (λ fields.
    Reads-table member_bytes _ (λ count items are. are.0) (members_read pool method) (λ methods.
    Reads-table attribute_bytes _ (λ count items are. are.0) (attributes_read pool the_class)
    (λ attributes.
    Reads-ok _)))))))

-- ---- the whole

abbrev ClassText : Spelling ClassData
ClassText = Then (Spelt versions_bytes AreVersions)
    (λ versions. Then (PoolText versions.1) (λ pool. BodyText versions.0 versions.1 pool))

-- of each of a list both hold
both : {A : Type 0} (P Q : A → Type 0) (items : List A) → AllByRecursion P items
    → AllByRecursion Q items → AllByRecursion (λ item. P item × Q item) items
both P Q [] one other = tt
both P Q (item ∷ items) one other = ((one.0, other.0), both P Q items one.1 other.1)

firsts : {A : Type 0} (P Q : A → Type 0) (items : List A)
    → AllByRecursion (λ item. P item × Q item) items → AllByRecursion P items
firsts P Q [] each = tt
firsts P Q (item ∷ items) each = (each.0.0, firsts P Q items each.1)

seconds : {A : Type 0} (P Q : A → Type 0) (items : List A)
    → AllByRecursion (λ item. P item × Q item) items → AllByRecursion Q items
seconds P Q [] each = tt
seconds P Q (item ∷ items) each = (each.0.1, seconds P Q items each.1)

abbrev HasFew : Member → Type 0
HasFew member = IsU2 (length member.attributes)

class_to : (at : ℕ) (text : List ℕ) (x : ClassData) → ClassText at text x
    → Spelt class_bytes IsClassFile at text x
class_to at text x versions =
    let read = versions.others in
    let pool = read.first in
    let flags = read.others in
    let this = flags.others in
    let super = this.others in
    let interfaces = super.others in
    let fields = interfaces.others in
    let methods = fields.others in
    let attributes = methods.others in
    let entries = pool_to versions.first.1 this.first _ read.front pool read.spelled
    this.spelled.right.1 in
    let made : ClassData =
    record {
      minor = versions.first.0;
      major = versions.first.1;
      pool = pool;
      flags = flags.first;
      this_class = this.first;
      super_class = super.first;
      interfaces = interfaces.first;
      fields = fields.first;
      methods = methods.first;
      attributes = attributes.first;
    } in
    let counts : FitsCounts made =
    record {
      pool = entries.right.count;
      texts = texts_fit pool entries.right.texts;
      interfaces = interfaces.spelled.right.0;
      fields = fields.spelled.right.0;
      field_attributes = firsts HasFew (IsField pool) fields.first fields.spelled.right.1.1;
      methods = methods.spelled.right.0;
      method_attributes = firsts HasFew (IsMethod pool) methods.first methods.spelled.right.1.1;
      attributes = attributes.spelled.right.0;
    } in
    let is : IsClassFile made =
    record {
      in_profile = record {
        minor = versions.spelled.right.0;
        major = versions.spelled.right.1;
        pool = entries.right.is_pool;
        flags = flags.spelled.right;
        this_class = this.spelled.right;
        super_class = super.spelled.right;
        interfaces = interfaces.spelled.right.1.1;
        fields = seconds HasFew (IsField pool) fields.first fields.spelled.right.1.1;
        methods = seconds HasFew (IsMethod pool) methods.first methods.spelled.right.1.1;
        attributes = attributes.spelled.right.1.1;
      };
      counted = within made counts;
    } in
    rw attributes.others.1 (
    record {
      text_is =
          rw (
            versions.parts,
            versions.spelled.text_is,
            read.parts,
            entries.text_is,
            flags.parts,
            flags.spelled.text_is,
            this.parts,
            this.spelled.text_is,
            super.parts,
            super.spelled.text_is,
            interfaces.parts,
            interfaces.spelled.text_is,
            fields.parts,
            fields.spelled.text_is,
            methods.parts,
            methods.spelled.text_is,
            attributes.parts,
            attributes.spelled.text_is,
            attributes.others.0,
            append-nil (table attribute_bytes attributes.first),
          )
          refl;
      right = is;
    })

class_from : (at : ℕ) (text : List ℕ) (x : ClassData) → Spelt class_bytes IsClassFile at text x
    → ClassText at text x
class_from at text x spelt =
    let is = spelt.right.in_profile in
    let counts = fit x spelt.right.counted in
    let pool : IsCountedPool x.major x.pool =
    record {
      is_pool = is.pool;
      count = counts.pool;
      texts = texts_within x.pool counts.texts;
    } in
    let read = pool_from x.major _ (table constant_bytes x.pool) x.pool
    (record { text_is = refl; right = pool }) in
    let fields = both HasFew (IsField x.pool) x.fields counts.field_attributes is.fields in
    let methods = both HasFew (IsMethod x.pool) x.methods counts.method_attributes is.methods in
    let body =
    spelt_then x.flags _ is.flags (
    spelt_then x.this_class _ is.this_class (
    spelt_then x.super_class _ is.super_class (
    spelt_then x.interfaces _ (counts.interfaces, (refl, is.interfaces)) (
    spelt_then x.fields _ (counts.fields, (refl, fields)) (
    spelt_then x.methods _ (counts.methods, (refl, methods)) (
    spelt_last x.attributes (counts.attributes, (refl, is.attributes, tt)) (refl, refl))))))) in
    rw spelt.text_is (
    spelt_then (x.minor, x.major) _ (is.minor, is.major)
    (record {
      first = x.pool;
      front = table constant_bytes x.pool;
      rest = _;
      parts = refl;
      spelled = read;
      others = body;
    }))

class_reads : Reads class_at (Spelt class_bytes IsClassFile)
unfolding class_at
class_reads = Reads-as (Reads-then _ versions_reads
    (λ versions. Reads-then _ (pool_reads versions.1)
    (λ pool. body_reads versions.0 versions.1 pool))) class_to class_from

-- ---- the laws

-- What is read of bytes is the class file that they spell.
pub class_takes : (bytes : List ℕ) (file : ClassData) → IsBytes bytes → class_of bytes ≡ Ok file
    → SpellsClass bytes file × (length bytes ≤ most_file_bytes)
unfolding class_of
class_takes bytes file fits e =
    let small = where_then (leb (length bytes) most_file_bytes)
    (above_limit whole_file (length bytes)) (whole_of bytes) _ file e in
    let read = bind_ok (class_at (whole_of bytes))
    (λ read. where_true (eqb (length read.1.bytes) 0) (extra_bytes read.1.at) read.0) file
    small.1 in
    let ended = where_ok (eqb (length read.0.1.bytes) 0)
    (extra_bytes read.0.1.at) read.0.0 file read.2 in
    let taken = class_reads.takes (whole_of bytes) read.0 read.1 fits in
    let nothing : read.0.1.bytes ≡ [] = nil_from_length read.0.1.bytes (eqb-true _ _ ended.0) in
    let spelled : bytes ≡ class_bytes read.0.0 = taken.takes.parts
    ∙ ap (λ (more : List ℕ). taken.text ++ more) nothing ∙ append-nil taken.text
    ∙ taken.spelled.text_is in (
      subst (λ (made : ClassData). SpellsClass bytes made) ended.1
          (record { is_class_file = taken.spelled.right; spelled = spelled }),
      leb-true _ _ small.0,
    )

whole_found : (bytes : List ℕ) (file : ClassData) → SpellsClass bytes file
    → class_at (whole_of bytes) ≡ Ok (file, record { at = 0 + length bytes; bytes = [] })
whole_found bytes file spells =
    let found = class_reads.finds 0 bytes file
    (record { text_is = spells.spelled; right = spells.is_class_file }) [] in
    rw append-nil at found

-- The class file that bytes spell is read of them, where they aren't too many.
pub class_again : (bytes : List ℕ) (file : ClassData) → SpellsClass bytes file
    → length bytes ≤ most_file_bytes → class_of bytes ≡ Ok file
unfolding class_of
class_again bytes file spells small =
    rw (
      where_again (leb (length bytes) most_file_bytes) (above_limit whole_file (length bytes))
          (whole_of bytes) (le-leb _ _ small),
      whole_found bytes file spells,
    ) refl

pub one_spelling : (bytes : List ℕ) (one other : ClassData) → SpellsClass bytes one
    → SpellsClass bytes other → one ≡ other
one_spelling bytes one other first second =
    ap (λ (x : ClassData × Input). x.0)
    (ok_is _ _ (sym (whole_found bytes one first) ∙ whole_found bytes other second))

-- What is refused is spelled by no data, where it isn't too long.
pub refused_is_unspelled : (bytes : List ℕ) (cause : Cause) → class_of bytes ≡ Err cause
    → length bytes ≤ most_file_bytes → (file : ClassData) → SpellsClass bytes file → ⊥
refused_is_unspelled bytes cause refused small file spells = let read =
    class_again bytes file spells small in cc
