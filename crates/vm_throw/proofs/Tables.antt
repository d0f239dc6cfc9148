-- Exception tables of methods, as their classes were read.
use Rattle.std.proofs.Common.{◌≡◌, ℕ, zero, suc, ◌+◌, ◌<◌, Bool, true, false, if◌then◌else◌, List, [], ◌∷◌, Option, Some, None, map, find, slice_get, option_map, option_and_then, unwrap_or, refl, sym, ap, subst, ◌∙◌}
use Rattle.std.specs.Prelude.{IfSome, length}
use Rattle.std.proofs.lemmas.Grind.{common_steps}
use Rattle.std.proofs.Common.{arith}
use Rattle.jv_model.specs.ClassData.{Const, Member}
use Rattle.jv_model.specs.Operand.{Operand}
use Rattle.jv_model.specs.Code.{Body}
use Rattle.jv_model.specs.Code as model
use Rattle.code_model.specs.Names.{named, named_handler}
use Rattle.world_model.specs.World.{World, Class, Method}
use Rattle.world_model.specs.LookUp.{Found}
use Rattle.link_model.specs.WorldOf.{method_of, methods_of}
use Rattle.machine_model.specs.Throwing.{handler_in}
use Rattle.jv_types.specs.Boot.{boot_method_of}
use Rattle.jv_types.specs.Code.{body_of, handler_of}
use Rattle.jv_types.specs.Loaded.{code_of}
use Rattle.jv_types.specs.declared.boot.BootMethod.{BootMethod}
use Rattle.jv_types.specs.declared.code.CodeBody.{CodeBody}
use Rattle.jv_types.specs.declared.code.Handler.{Handler}
use Rattle.jv_types.specs.declared.number.MethodNo.{MethodNo}
use Rattle.class_world.specs.World.{class_of_origin, method_at, names_of}
use Rattle.class_world.specs.declared.class_info.Origin.{Origin}
use Rattle.vm_throw.specs.Handlers.{named_row, takes, rows_of, handler_found}

-- ---- the rows of a method

-- the code at an index, if one is there
abbrev pub code_in : {A : Type 0} → List (Option A) → ℕ → Option A
code_in {A} codes index = option_and_then (λ (code : Option A). code) (slice_get codes index)

abbrev pub named_rows : List Const → Option (Body ℕ) → List (model.Handler Operand)
named_rows pool code = unwrap_or (option_map (λ (b : Body ℕ). map (named_handler pool) b.handlers) code) []

rows_made : (pool : List Const) (member : Member) (body : Option (Body ℕ))
    → rows_of (method_of pool member body) ≡ named_rows pool body
unfolding named
rows_made pool member None = refl
rows_made pool member (Some body) = refl

rows_read : (pool : List Const) (members : List Member) (bodies : List (Option (Body ℕ))) (index : ℕ) (m : Method)
    → slice_get (methods_of pool members bodies) index ≡ Some m → rows_of m ≡ named_rows pool (code_in bodies index)
unfolding methods_of
rows_read pool [] bodies index m at = absurd cc
rows_read pool (member ∷ members) [] zero m at =
    let same : method_of pool member None ≡ m = cc in
    subst (λ (n : Method). rows_of n ≡ []) same (rows_made pool member None)
rows_read pool (member ∷ members) [] (suc index) m at = rows_read pool members [] index m at
rows_read pool (member ∷ members) (body ∷ bodies) zero m at =
    let same : method_of pool member body ≡ m = cc in
    subst (λ (n : Method). rows_of n ≡ named_rows pool body) same (rows_made pool member body)
rows_read pool (member ∷ members) (body ∷ bodies) (suc index) m at = rows_read pool members bodies index m at

rows-map : (pool : List Const) (rows : List Handler) → map (named_handler pool) (map handler_of rows) ≡ map (named_row pool) rows
rows-map pool [] = refl
rows-map pool (row ∷ rows) = ap (λ l. named_row pool row ∷ l) (rows-map pool rows)

abbrev pub table_of : List Const → Option CodeBody → List (model.Handler Operand)
table_of pool code = unwrap_or (option_map (λ (c : CodeBody). map (named_row pool) c.handlers.items) code) []

rows_of_code : (pool : List Const) (codes : List (Option CodeBody)) (index : ℕ)
    → named_rows pool (code_in (map code_of codes) index) ≡ table_of pool (code_in codes index)
rows_of_code pool [] index = refl
rows_of_code pool (None ∷ codes) zero = refl
rows_of_code pool (Some code ∷ codes) zero = rows-map pool code.handlers.items
rows_of_code pool (code ∷ codes) (suc index) = rows_of_code pool codes index

-- of a class that was read
pub program_rows : (pool : List Const) (members : List Member) (codes : List (Option CodeBody)) (index : ℕ) (m : Method)
    → slice_get (methods_of pool members (map code_of codes)) index ≡ Some m
    → rows_of m ≡ table_of pool (code_in codes index)
program_rows pool members codes index m at =
    rows_read pool members (map code_of codes) index m at ∙ rows_of_code pool codes index

-- of a boot class
pub boot_rows : (methods : List BootMethod) (index : ℕ) (m : Method) → slice_get (map boot_method_of methods) index ≡ Some m
    → rows_of m ≡ []
boot_rows [] index m at = absurd cc
boot_rows (method ∷ methods) zero m at =
    let same : boot_method_of method ≡ m = cc in
    subst (λ (n : Method). rows_of n ≡ []) same refl
boot_rows (method ∷ methods) (suc index) m at = boot_rows methods index m at

-- ---- the first row that takes

find-map : {A B : Type 0} (p : B → Bool) (f : A → B) (xs : List A) → find p (map f xs) ≡ option_map f (find (λ x. p (f x)) xs)
find-map p f [] = refl
find-map {A} {B} p f (x ∷ xs) = by (p (f x)) (find-map p f xs)
  where
    by : (b : Bool) → find p (map f xs) ≡ option_map f (find (λ y. p (f y)) xs)
        → (if b then Some (f x) else find p (map f xs)) ≡ option_map f (if b then Some x else find (λ y. p (f y)) xs)
    by true rest = refl
    by false rest = rest

-- the place of the first row that takes the class
abbrev pub first_target : World → List Const → ℕ → List ℕ → List Handler → Option ℕ
first_target world pool pc class rows =
    option_map (λ (row : Handler). row.target) (find (λ (row : Handler). takes world pc class (named_row pool row)) rows)

first_named : (world : World) (pool : List Const) (pc : ℕ) (class : List ℕ) (rows : List Handler)
    → first_target world pool pc class rows
    ≡ option_map (λ (row : model.Handler Operand). row.target) (find (takes world pc class) (map (named_row pool) rows))
first_named world pool pc class rows =
    by (find (λ (row : Handler). takes world pc class (named_row pool row)) rows)
    ∙ ap (option_map (λ (row : model.Handler Operand). row.target)) (sym (find-map (takes world pc class) (named_row pool) rows))
  where
    by : (o : Option Handler) → option_map (λ (row : Handler). row.target) o
        ≡ option_map (λ (row : model.Handler Operand). row.target) (option_map (named_row pool) o)
    by None = refl
    by (Some row) = refl

handler_first : (world : World) (m : Method) (pc : ℕ) (class : List ℕ)
    → option_map (λ (row : model.Handler Operand). row.target) (find (takes world pc class) (rows_of m))
    ≡ handler_found world m pc class
handler_first world m pc class = by m.code
  where
    by : (code : Option (Body Operand))
        → option_map (λ (row : model.Handler Operand). row.target)
        (find (takes world pc class) (unwrap_or (option_map (λ (body : Body Operand). body.handlers) code) []))
        ≡ option_and_then (λ body. handler_in world body pc class) code
    by None = refl
    by (Some body) = refl

-- It's the handler of a method with these rows.
pub handler_of_rows : (world : World) (pool : List Const) (pc : ℕ) (class : List ℕ) (rows : List Handler) (m : Method)
    → rows_of m ≡ map (named_row pool) rows → first_target world pool pc class rows ≡ handler_found world m pc class
handler_of_rows world pool pc class rows m are =
    first_named world pool pc class rows
    ∙ ap (λ l. option_map (λ (row : model.Handler Operand). row.target) (find (takes world pc class) l)) (sym are)
    ∙ handler_first world m pc class

-- ---- the method of a number

pub method_there : (world : World) (place : MethodNo) (class : Class) (found : Found Method)
    → slice_get world.classes place.class.0 ≡ Some class → method_at world place ≡ Some found
    → slice_get class.methods place.index ≡ Some found.member
method_there world place class found at is = by (slice_get class.methods place.index) refl (rw at at is)
  where
    by : (o : Option Method) → slice_get class.methods place.index ≡ o
        → option_map (λ (m : Method). let f : Found Method = record { class = class.name; member = m } in f) o ≡ Some found
        → slice_get class.methods place.index ≡ Some found.member
    by None e made = absurd cc
    by (Some m) e made =
        let same : m ≡ found.member = ap (λ (o : Option (Found Method)). unwrap_or (option_map (λ (f : Found Method). f.member) o) m) made in
        e ∙ ap (λ (n : Method). Some n) same

-- It's the handler of the method of a number, whose class has these rows at its index.
pub found_handler : (world : World) (place : MethodNo) (pc : ℕ) (class : List ℕ) (target : Option ℕ) (c : Class)
    (origin : Origin) (pool : List Const) (rows : List Handler) → slice_get world.classes place.class.0 ≡ Some c
    → class_of_origin (names_of world) origin ≡ c
    → ((names : List (List ℕ)) (m : Method) → slice_get (class_of_origin names origin).methods place.index ≡ Some m
    → rows_of m ≡ map (named_row pool) rows)
    → target ≡ first_target world pool pc class rows
    → IfSome (method_at world place) (λ (found : Found Method). target ≡ handler_found world found.member pc class)
found_handler world place pc class target c origin pool rows at is are first = by (method_at world place) refl
  where
    by : (o : Option (Found Method)) → method_at world place ≡ o
        → IfSome o (λ (found : Found Method). target ≡ handler_found world found.member pc class)
    by None e = tt
    by (Some found) e =
        let there = method_there world place c found at e in
        let read = subst (λ (k : Class). slice_get k.methods place.index ≡ Some found.member) (sym is) there in
        first ∙ handler_of_rows world pool pc class rows found.member (are (names_of world) found.member read)
