-- The methods of a table, one more.
use Rattle.std.proofs.Common.{◌≡◌, ℕ, ◌+◌, ◌<◌, ◌≤◌, Bool, true, false, not, ◌&&◌, List, [], ◌∷◌, Option, Some, None, if◌then◌else◌, length, map, drop, slice_get, get_or, nat_lt, IsTrue, option_map, ap, sym, subst, ◌∙◌, refl}
use Rattle.std.specs.Option.{option_or}
use Rattle.std.proofs.lemmas.Bool.Decides.{Decides-ltb}
use Rattle.std.proofs.lemmas.List.{at_drop_more, at_drop_all}
use Rattle.std.proofs.lemmas.Option.{slice_get_within, get_or_from_slice_get, slice_get-get_or, slice_get-map}
use Rattle.jv_types.specs.Sequence.{Sequence}
use Rattle.jv_types.specs.Boot.{boot_method_of}
use Rattle.jv_types.specs.declared.boot.BootMethod.{BootMethod}
use Rattle.jv_types.specs.declared.number.ClassNo.{ClassNo}
use Rattle.jv_types.specs.declared.number.MethodNo.{MethodNo}
use Rattle.class_graph.proofs.Passing.{list_all-get_or}
use Rattle.class_methods.specs.Signatures.{Numbers, signature_at}
use Rattle.jv_model.specs.Code.{Body}
use Rattle.jv_model.specs.ClassData.{Const}
use Rattle.world_model.specs.World.{World, Class}
use Rattle.link_model.specs.WorldOf.{methods_of}
use Rattle.jv_types.specs.ClassData.{pool_of, member_of}
use Rattle.jv_types.specs.Loaded.{code_of}
use Rattle.jv_types.specs.declared.loaded.Loaded.{Loaded}
use Rattle.jv_types.specs.declared.class_data.Member.{Member}
use Rattle.class_world.specs.World.{class_of_origin}
use Rattle.class_world.specs.declared.class_info.Origin.{Origin}
use Rattle.class_world.specs.declared.class_info.Origin.TheVariants.{Boot, Program}
use Rattle.class_dispatch.specs.Rows.{is_selectable, flags_select, methods_in, selectable_in}
use Rattle.class_dispatch.specs.Tables.{same_number, place, own_in, row_in, chain_in, RowSignatures, HaveSignatures, is_inside}

pub boot_selectable : (method : BootMethod) → not method.is_static ≡ is_selectable (boot_method_of method)
boot_selectable method = by method.is_static method.is_native
  where
    by : (is_static is_native : Bool)
        → not is_static ≡ is_selectable (boot_method_of (record { name = method.name; descriptor = method.descriptor; is_static = is_static; is_native = is_native }))
    by true true = refl
    by true false = refl
    by false true = refl
    by false false = refl

or_none : {A : Type 0} (o : Option A) → option_or o None ≡ o
or_none None = refl
or_none (Some x) = refl

or_both : {A : Type 0} (o p q : Option A) → option_or (option_or o p) q ≡ option_or o (option_or p q)
or_both None p q = refl
or_both (Some x) p q = refl

or_if : {A : Type 0} (b : Bool) (x : A) (rest : Option A) → option_or (if b then Some x else None) rest ≡ (if b then Some x else rest)
or_if true x rest = refl
or_if false x rest = refl

pub own_next : (signatures : Numbers) (class : ClassNo) (row : List Bool) (i signature : ℕ) (b : Bool) (old new whole : Option MethodNo)
    → slice_get row i ≡ Some b
    → new ≡ option_or old (if b && same_number (signature_at signatures (place class i)) signature then Some (place class i) else None)
    → option_or old (own_in signatures class i (drop i row) signature) ≡ whole
    → option_or new (own_in signatures class (i + 1) (drop (i + 1) row) signature) ≡ whole
own_next signatures class row i signature b old new whole at is so_far =
    let test = b && same_number (signature_at signatures (place class i)) signature in
    let rest = own_in signatures class (i + 1) (drop (i + 1) row) signature in
    ap (λ (o : Option MethodNo). option_or o rest) is
    ∙ or_both old (if test then Some (place class i) else None) rest
    ∙ ap (option_or old) (or_if test (place class i) rest)
    ∙ sym (at_drop_more (λ (l : List Bool). option_or old (own_in signatures class i l signature)) row i b (slice_get_within row i b at)
    ∙ ap (λ (t : Bool). option_or old (own_in signatures class i (t ∷ drop (i + 1) row) signature)) (get_or_from_slice_get row i b b at))
    ∙ so_far

pub own_all : (signatures : Numbers) (class : ClassNo) (row : List Bool) (i signature : ℕ) (last whole : Option MethodNo) → length row ≤ i
    → option_or last (own_in signatures class i (drop i row) signature) ≡ whole → last ≡ whole
own_all signatures class row i signature last whole past so_far =
    sym (or_none last) ∙ sym (at_drop_all (λ (l : List Bool). option_or last (own_in signatures class i l signature)) row i past) ∙ so_far

pub chain_next : (signatures : Numbers) (rows : List (Sequence Bool)) (chain : List ClassNo) (i signature : ℕ) (class : ClassNo) (row : Sequence Bool)
    (old new whole : Option MethodNo) → i < length chain → class ≡ get_or chain i class → slice_get rows class.0 ≡ Some row
    → new ≡ option_or old (own_in signatures class 0 row.items signature)
    → option_or old (chain_in signatures rows (drop i chain) signature) ≡ whole
    → option_or new (chain_in signatures rows (drop (i + 1) chain) signature) ≡ whole
chain_next signatures rows chain i signature class row old new whole inside here at is so_far =
    let rest = chain_in signatures rows (drop (i + 1) chain) signature in
    ap (λ (o : Option MethodNo). option_or o rest) is
    ∙ or_both old (own_in signatures class 0 row.items signature) rest
    ∙ ap (λ (r : Option (Sequence Bool)). option_or old (option_or (own_in signatures class 0 (row_in r) signature) rest)) (sym at)
    ∙ sym (at_drop_more (λ (l : List ClassNo). option_or old (chain_in signatures rows l signature)) chain i class inside
    ∙ ap (λ (k : ClassNo). option_or old (chain_in signatures rows (k ∷ drop (i + 1) chain) signature)) (sym here))
    ∙ so_far

pub chain_all : (signatures : Numbers) (rows : List (Sequence Bool)) (chain : List ClassNo) (i signature : ℕ) (last whole : Option MethodNo) → length chain ≤ i
    → option_or last (chain_in signatures rows (drop i chain) signature) ≡ whole → last ≡ whole
chain_all signatures rows chain i signature last whole past so_far =
    sym (or_none last) ∙ sym (at_drop_all (λ (l : List ClassNo). option_or last (chain_in signatures rows l signature)) chain i past) ∙ so_far

-- what stands at a place inside, whatever stands for the places behind
pub stands_there : (chain : List ClassNo) (i : ℕ) (k : ClassNo) → i < length chain → get_or chain i k ≡ get_or chain i (get_or chain i k)
stands_there chain i k inside =
    sym (get_or_from_slice_get chain i (get_or chain i k) (get_or chain i k) (slice_get-get_or chain i k inside))

pub class_inside : (count : ℕ) (chain : List ClassNo) (i : ℕ) (class : ClassNo) → IsTrue (is_inside count chain) → i < length chain
    → class ≡ get_or chain i class → class.0 < count
class_inside count chain i class all inside is =
    (Decides-ltb class.0 count).0
    (subst (λ (k : ClassNo). nat_lt k.0 count ≡ true) (sym is)
    (list_all-get_or (λ (k : ClassNo). nat_lt k.0 count) chain i class all inside))

pub row_signatures : (signatures : Numbers) (rows : List (Sequence Bool)) (class : ClassNo) (row : Sequence Bool) → HaveSignatures signatures rows
    → slice_get rows class.0 ≡ Some row → RowSignatures signatures class row.items
row_signatures signatures rows class row have at =
    subst (λ (r : Option (Sequence Bool)). RowSignatures signatures class (row_in r)) at (have class)

-- ---- classes that were read

read_selectable : (pool : List Const) (members : List Member) (codes : List (Option (Body ℕ)))
    → map (λ (m : Member). flags_select m.flags) members ≡ map is_selectable (methods_of pool (map member_of members) codes)
unfolding methods_of
read_selectable pool [] codes = refl
read_selectable pool (member ∷ members) [] = ap (λ (l : List Bool). flags_select member.flags ∷ l) (read_selectable pool members [])
read_selectable pool (member ∷ members) (code ∷ codes) = ap (λ (l : List Bool). flags_select member.flags ∷ l) (read_selectable pool members codes)

pub read_row : (loaded : Loaded) → map (λ (m : Member). flags_select m.flags) loaded.file.methods.items ≡ map is_selectable (methods_in (Program loaded))
read_row loaded = read_selectable (pool_of loaded.file.pool.items) loaded.file.methods.items (map code_of loaded.codes.items)

pub methods_are : (names : List (List ℕ)) (origin : Origin) → methods_in origin ≡ (class_of_origin names origin).methods
methods_are names (Boot class) = refl
methods_are names (Program loaded) = refl

pub selectable_at : (world : World) (i : ℕ) (class : Class) (row : List Bool) → slice_get world.classes i ≡ Some class
    → row ≡ map is_selectable class.methods → slice_get (selectable_in world) i ≡ Some row
selectable_at world i class row at is =
    slice_get-map (λ (c : Class). map is_selectable c.methods) world.classes i
    ∙ ap (option_map (λ (c : Class). map is_selectable c.methods)) at ∙ ap Some (sym is)
