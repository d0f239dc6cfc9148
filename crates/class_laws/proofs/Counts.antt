-- A list is too long for its count exactly where two bytes can't say how long it is.
use Rattle.std.proofs.Common.{◌≡◌, ℕ, ◌^◌, ◌<◌, Bool, true, false, cond, List, [], ◌∷◌, Option, Some, None, refl, arith}
use Rattle.std.proofs.lemmas.Bool.{le-ltb, ltb-false}
use Rattle.jv_model.specs.Partial.{or_else, first_of}
use Rattle.jv_model.specs.Refusal.{Limited, pool_entries, text_run_bytes, class_interfaces, class_fields, class_methods, attribute_list}
use Rattle.jv_model.specs.ClassData.{Const, utf8, Member, ClassData}
use Rattle.jv_model.specs.ClassLimits.{most_counted, over, constant_limit, member_limit}
use Rattle.jv_model.specs.Profile.{IsCounted}
use Rattle.class_laws.specs.Laws.{IsShortText, HasShortTexts, HaveFewAttributes, FitsCounts}

-- ---- one count

pub is_within : (what : Limited) (count : ℕ) → count < 2 ^ 16 → over what count ≡ None
is_within what count fits = rw (le-ltb most_counted count (omega arith)) refl

not_over : {A : Type 0} (test : Bool) (limit : A) → cond test (Some limit) None ≡ None
    → test ≡ false
not_over true limit e = absurd cc
not_over false limit e = refl

pub fits_count : (what : Limited) (count : ℕ) → over what count ≡ None → count < 2 ^ 16
fits_count what count within = let most =
    ltb-false most_counted count (not_over _ (what, count) within) in omega (arith, most)

-- ---- the first of several limits

pub or_else-parts : {A : Type 0} (first second : Option A) → or_else first second ≡ None
    → (first ≡ None) × (second ≡ None)
or_else-parts None second e = (refl, e)
or_else-parts (Some limit) second e = absurd cc

-- ---- those of a class file

members_within : (members : List Member) → HaveFewAttributes members
    → first_of member_limit members ≡ None
members_within [] few = refl
members_within (member ∷ members) few =
    rw (is_within attribute_list _ few.0, members_within members few.1) refl

members_fit : (members : List Member) → first_of member_limit members ≡ None
    → HaveFewAttributes members
members_fit [] e = tt
members_fit (member ∷ members) e =
    let parts = or_else-parts (member_limit member) (first_of member_limit members) e in
    (fits_count attribute_list _ parts.0, members_fit members parts.1)

constant_within : (constant : Const) → IsShortText constant → constant_limit constant ≡ None
constant_within (utf8 units) short = is_within text_run_bytes _ short
constant_within other short = refl

constant_fits : (constant : Const) → constant_limit constant ≡ None → IsShortText constant
constant_fits (utf8 units) e = fits_count text_run_bytes _ e
constant_fits other e = tt

pub texts_within : (pool : List Const) → HasShortTexts pool → first_of constant_limit pool ≡ None
texts_within [] short = refl
texts_within (constant ∷ pool) short =
    rw (constant_within constant short.0, texts_within pool short.1) refl

pub texts_fit : (pool : List Const) → first_of constant_limit pool ≡ None → HasShortTexts pool
texts_fit [] e = tt
texts_fit (constant ∷ pool) e =
    let parts = or_else-parts (constant_limit constant) (first_of constant_limit pool) e in
    (constant_fits constant parts.0, texts_fit pool parts.1)

pub within : (file : ClassData) → FitsCounts file → IsCounted file
within file fits =
    rw (
      is_within pool_entries _ fits.pool,
      texts_within file.pool fits.texts,
      is_within class_interfaces _ fits.interfaces,
      is_within class_fields _ fits.fields,
      members_within file.fields fits.field_attributes,
      is_within class_methods _ fits.methods,
      members_within file.methods fits.method_attributes,
      is_within attribute_list _ fits.attributes,
    )
    refl

pub fit : (file : ClassData) → IsCounted file → FitsCounts file
fit file counted =
    let pool = or_else-parts _ _ counted in
    let texts = or_else-parts _ _ pool.1 in
    let interfaces = or_else-parts _ _ texts.1 in
    let fields = or_else-parts _ _ interfaces.1 in
    let field_attributes = or_else-parts _ _ fields.1 in
    let methods = or_else-parts _ _ field_attributes.1 in
    let method_attributes = or_else-parts _ _ methods.1 in
    record {
      pool = fits_count pool_entries _ pool.0;
      texts = texts_fit file.pool texts.0;
      interfaces = fits_count class_interfaces _ interfaces.0;
      fields = fits_count class_fields _ fields.0;
      field_attributes = members_fit file.fields field_attributes.0;
      methods = fits_count class_methods _ methods.0;
      method_attributes = members_fit file.methods method_attributes.0;
      attributes = fits_count attribute_list _ method_attributes.1;
    }
