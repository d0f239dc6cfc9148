-- The parts of a Code attribute.
use Rattle.std.proofs.Common.{◌≡◌, ℕ, ◌+◌, ◌≤◌, eqb, leb, List, [], ◌++◌, length, Option, None, Result, Ok, Err, refl, sym, ap, subst, ◌∙◌, append-nil, append_assoc, arith, IsTrue}
use Rattle.std.specs.List.{flat_map, AllByRecursion}
use Rattle.std.proofs.lemmas.Bool.{and_parts, and_from, leb-true, le-leb, eqb-true}
use Rattle.jv_model.specs.Limits.{most_code_bytes}
use Rattle.jv_model.specs.Refusal.{Cause, truncated, extra_bytes, wrong_shape}
use Rattle.jv_model.specs.Fallible.{◌>>=◌, where_true}
use Rattle.jv_model.specs.Input.{Input, whole_of}
use Rattle.jv_model.specs.ClassData.{Const, Attr}
use Rattle.jv_model.specs.ClassBytes.{u2, u4, table, attribute_bytes}
use Rattle.jv_model.specs.Profile.{IsU2}
use Rattle.jv_model.specs.Code.{Handler}
use Rattle.code_model.specs.StackMapEntries.{MapTable}
use Rattle.code_model.specs.CodeShape.{Parts, is_code_length, inners_at, table_of, as_shape, parts_at, parts_of}
use Rattle.code_model.specs.SpellsCode.{handler_bytes, AreAttrs}
use Rattle.class_laws.proofs.Numbers.{IsBytes, bind_ok}
use Rattle.class_laws.proofs.Readers.{Spelling, Reads, Then, Reads-then, Reads-behind, Made, Reads-map, Holding, Reads-where, where_ok, Spelt, number_reads, IsRun, run_reads, spelt_then}
use Rattle.code_laws.proofs.Signed.{Number}
use Rattle.code_laws.proofs.Instructions.{no_bytes}
use Rattle.code_laws.proofs.Handlers.{IsRow, Rows, rows_reads}
use Rattle.code_laws.proofs.Inners.{Inners, inners_reads, ReadMap, MapIsRead, maps_in, inners_spelled, spelled_inners}

abbrev Run : ℕ → Spelling (List ℕ)
Run count = Spelt (λ bytes. bytes) (IsRun count)

abbrev parts_from : ℕ → ℕ → List ℕ → List (Handler ℕ) → Option MapTable → Parts
parts_from max_stack max_locals code handlers map =
    record {
      max_stack = max_stack;
      max_locals = max_locals;
      code = code;
      handlers = handlers;
      map = table_of map;
    }

-- the exception table, and the attributes behind it
abbrev BehindCode : List Const → ℕ → ℕ → ℕ → List ℕ → Spelling Parts
BehindCode pool method max_stack max_locals code =
    Then (Number 2) (λ row_count. Then (Rows row_count) (λ rows. Then (Number 2) (λ count.
    Made (parts_from max_stack max_locals code rows) (Inners pool method count None))))

abbrev FieldByField : List Const → ℕ → Spelling Parts
FieldByField pool method =
    Then (Number 2) (λ max_stack. Then (Number 2) (λ max_locals. Then (Number 4) (λ count.
    Holding (IsTrue (is_code_length count))
    (Then (Run count) (λ code. BehindCode pool method max_stack max_locals code)))))

-- the parts are read, field by field
parts_read :
    (pool : List Const) (method : ℕ) → Reads (parts_at pool method) (FieldByField pool method)
unfolding parts_at
parts_read pool method =
    Reads-then _ (number_reads 2) (λ max_stack.
    Reads-then _ (number_reads 2) (λ max_locals.
    Reads-behind _ (number_reads 4) (λ before count.
    Reads-where {make = λ rest. (count, rest)} _ (is_code_length count)
    (wrong_shape method before.at) (
    Reads-then _ (run_reads count) (λ code.
    Reads-then _ (number_reads 2) (λ row_count.
    Reads-then _ (rows_reads row_count) (λ rows.
    Reads-then _ (number_reads 2) (λ inner_count.
    Reads-map (inners_at pool method inner_count None) (Inners pool method inner_count None)
    (parts_from max_stack max_locals code rows) (inners_reads pool method inner_count None)))))))))

-- what was read has the right shape
shaped :
    {A : Type 0} (method : ℕ) (read : Result A Cause) (x : A) → as_shape method read ≡ Ok x
    → read ≡ Ok x
shaped method (Ok y) x e = e
shaped method (Err (truncated place)) x e = absurd cc
shaped method (Err (extra_bytes place)) x e = absurd cc
shaped method (Err cause) x e = absurd cc

abbrev all_read : Parts × Input → Result Parts Cause
all_read parts = where_true (eqb (length parts.1.bytes) 0) (extra_bytes parts.1.at) parts.0

-- parts that are read are all of the attribute
parts_taken :
    (pool : List Const) (method : ℕ) (bytes : List ℕ) (parts : Parts)
    → parts_of pool method bytes ≡ Ok parts
    → IsBytes bytes → FieldByField pool method 0 bytes parts
unfolding parts_of
parts_taken pool method bytes parts e fits =
    let whole = shaped method (parts_at pool method (whole_of bytes) >>= all_read) parts e in
    let read = bind_ok (parts_at pool method (whole_of bytes)) all_read parts whole in
    let ended =
    where_ok (eqb (length read.0.1.bytes) 0) (extra_bytes read.0.1.at) read.0.0 parts read.2 in
    let taken = (parts_read pool method).takes (whole_of bytes) read.0 read.1 fits in
    let none = no_bytes read.0.1.bytes (eqb-true (length read.0.1.bytes) 0 ended.0) in
    let all : taken.text ≡ bytes = sym (taken.takes.parts ∙ rw none (append-nil taken.text)) in
    subst (λ (x : Parts). FieldByField pool method 0 bytes x) ended.1
    (subst (λ (text : List ℕ). FieldByField pool method 0 text read.0.0) all taken.spelled)

-- parts that are all of the attribute are read
pub parts_found :
    (pool : List Const) (method : ℕ) (bytes : List ℕ) (parts : Parts)
    → FieldByField pool method 0 bytes parts
    → parts_of pool method bytes ≡ Ok parts
unfolding parts_of
parts_found pool method bytes parts spelled =
    let found = (parts_read pool method).finds 0 bytes parts spelled [] in
    let read : parts_at pool method (whole_of bytes) ≡ Ok (
      parts,
      record {
        at = 0 + length bytes;
        bytes = [];
      },
    ) =
    subst (λ (text : List ℕ). parts_at pool method (record { at = 0; bytes = text }) ≡ Ok
    (parts, record { at = 0 + length bytes; bytes = [] }))
    (append-nil bytes) found in
    ap (λ (read : Result (Parts × Input) Cause). as_shape method (read >>= all_read)) read

-- ---- what the parts say of the bytes

pub record SpellsParts (pool : List Const) (method : ℕ) (bytes : List ℕ)
    (parts : Parts) : Type 0 where
  pub attributes : List Attr
  pub map : Option MapTable
  pub spelled :
      bytes ≡ u2 parts.max_stack ++ (u2 parts.max_locals ++ (u4 (length parts.code) ++ (parts.code
      ++ (table handler_bytes parts.handlers ++ table attribute_bytes attributes))))
  pub fit : IsU2 parts.max_stack × IsU2 parts.max_locals
  pub code_length : (1 ≤ length parts.code) × (length parts.code ≤ most_code_bytes)
  pub code_fits : IsBytes parts.code
  pub few_rows : IsU2 (length parts.handlers)
  pub rows : AllByRecursion IsRow parts.handlers
  pub are_attributes : AreAttrs pool attributes
  pub read : ReadMap method None (maps_in pool attributes) map
  pub map_is : parts.map ≡ table_of map

-- the code has a byte, and not too many
code_lengths : (count : ℕ) → IsTrue (is_code_length count) → (1 ≤ count) × (count ≤ most_code_bytes)
code_lengths count is =
    let both = and_parts (leb 1 count) (leb count most_code_bytes) is in
    (leb-true 1 count both.0, leb-true count most_code_bytes both.1)

-- code of such a length passes
pub lengths_code :
    (count : ℕ) → (1 ≤ count) × (count ≤ most_code_bytes) → IsTrue (is_code_length count)
lengths_code count both =
    and_from (leb 1 count) (leb count most_code_bytes) (le-leb 1 count both.0)
    (le-leb count most_code_bytes both.1)

-- one item behind another
joined :
    (bytes a a' b b' c c' d d' e e' f f' g g' code rows inners : List ℕ)
    (stack locals count row_count inner_count : ℕ)
    → bytes ≡ a ++ a' → a' ≡ b ++ b' → b' ≡ c ++ c' → c' ≡ d ++ d' → d' ≡ e ++ e' → e' ≡ f ++ f'
    → f' ≡ g ++ g'
    → a ≡ u2 stack → b ≡ u2 locals → c ≡ u4 count → d ≡ code → e ≡ u2 row_count → f ≡ rows
    → g ≡ u2 inner_count → g' ≡ inners
    → bytes ≡ u2 stack
    ++ (u2 locals ++ (u4 count ++ (code ++ ((u2 row_count ++ rows) ++ (u2 inner_count ++ inners)))))
joined bytes a a' b b' c c' d d' e e' f f' g g' code rows inners stack locals count row_count
    inner_count
    p1 p2 p3 p4 p5 p6 p7 q1 q2 q3 q4 q5 q6 q7 q8 =
    rw (p1, p2, p3, p4, p5, p6, p7, q1, q2, q3, q4, q5, q6, q7, q8) refl

-- parts that are read say what the bytes are
pub parts_spelled :
    (pool : List Const) (method : ℕ) (bytes : List ℕ) (parts : Parts)
    → parts_of pool method bytes ≡ Ok parts
    → IsBytes bytes → SpellsParts pool method bytes parts
parts_spelled pool method bytes parts e fits =
    let s1 = parts_taken pool method bytes parts e fits in
    let s2 = s1.others in
    let s3 = s2.others in
    let s4 = s3.others.1 in
    let s5 = s4.others in
    let s6 = s5.others in
    let s7 = s6.others in
    let made = s7.others in
    let inners = inners_spelled pool method s7.first None _ s7.rest made.0 made.1 in
    let rows = s6.spelled.right in
    let bytes_are =
    joined bytes _ _ _ _ _ _ _ _ _ _ _ _ _ _ s4.first (flat_map handler_bytes s6.first)
    (flat_map attribute_bytes inners.attributes) s1.first s2.first s3.first s5.first s7.first
    s1.parts
    s2.parts s3.parts s4.parts s5.parts s6.parts s7.parts s1.spelled.text_is s2.spelled.text_is
    s3.spelled.text_is s4.spelled.text_is s5.spelled.text_is s6.spelled.text_is s7.spelled.text_is
    inners.text_is in
    subst (λ (p : Parts). SpellsParts pool method bytes p) (sym made.2) (record {
      attributes = inners.attributes;
      map = made.0;
      spelled = rw (s4.spelled.right.0, rows.0, inners.as_many) bytes_are;
      fit = (s1.spelled.right, s2.spelled.right);
      code_length = rw s4.spelled.right.0 (code_lengths s3.first s3.others.0);
      code_fits = s4.spelled.right.1;
      few_rows = rw rows.0 s5.spelled.right;
      rows = rows.1;
      are_attributes = (rw inners.as_many s7.spelled.right, inners.right);
      read = inners.read;
      map_is = refl;
    })

-- parts whose bytes are these are read
pub spelled_parts :
    (pool : List Const) (method : ℕ) (bytes : List ℕ) (parts : Parts) (attributes : List Attr)
    (map : Option MapTable)
    → bytes ≡ u2 parts.max_stack ++ (u2 parts.max_locals ++ (u4 (length parts.code) ++ (parts.code
    ++ (table handler_bytes parts.handlers ++ table attribute_bytes attributes))))
    → IsU2 parts.max_stack × IsU2 parts.max_locals
    → (1 ≤ length parts.code) × (length parts.code ≤ most_code_bytes) → IsBytes parts.code
    → IsU2 (length parts.handlers) → AllByRecursion IsRow parts.handlers → AreAttrs pool attributes
    → MapIsRead method None (maps_in pool attributes) map → parts.map ≡ table_of map
    → parts_of pool method bytes ≡ Ok parts
spelled_parts pool method bytes parts attributes map bytes_are fit long code_fits few rows right
    read map_is =
    parts_found pool method bytes parts (rw bytes_are (
    spelt_then parts.max_stack _ fit.0 (
    spelt_then parts.max_locals _ fit.1 (
    spelt_then (length parts.code) _ (omega (arith, long)) (
      lengths_code (length parts.code) long,
      spelt_then parts.code _ (refl, code_fits)
          (rw (append_assoc (u2 (length parts.handlers)) (flat_map handler_bytes parts.handlers)
          (table attribute_bytes attributes)) (
          spelt_then (length parts.handlers) _ few (
          spelt_then parts.handlers _ (refl, rows) (
          spelt_then (length attributes) _ right.0 (
            map,
            spelled_inners pool method _ None attributes map right.1 read,
            ap (λ (m : MapTable). record {
              max_stack = parts.max_stack;
              max_locals = parts.max_locals;
              code = parts.code;
              handlers = parts.handlers;
              map = m;
            })
                map_is,
          ))))),
    )))))
