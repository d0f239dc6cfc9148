-- The types above a class, and the orders in which members are looked for (JVMS 5.4.3.2, 5.4.3.3). A name without a
-- class has none above it.
use Rattle.std.specs.Prelude.{ℕ, zero, suc, List, [], ◌∷◌, ◌++◌, Bool, if◌then◌else◌, length, bytes_eq, option_to_list}
use Rattle.std.specs.List.{flat_map, list_any}
use Rattle.world_model.specs.World.{Class, World, class_in}

-- the names of a class's superclass, where it has one, and of its interfaces
abbrev pub superclass_of : World → List ℕ → List (List ℕ)
superclass_of world name = flat_map (λ (c : Class). option_to_list c.superclass) (option_to_list (class_in world name))

abbrev pub interfaces_of : World → List ℕ → List (List ℕ)
interfaces_of world name = flat_map (λ (c : Class). c.interfaces) (option_to_list (class_in world name))

-- names, each where it first stands
unfoldable pub each_once : List (List ℕ) → List (List ℕ) → List (List ℕ)
each_once seen [] = []
each_once seen (name ∷ names) =
    if list_any (bytes_eq name) seen then each_once seen names else name ∷ each_once (name ∷ seen) names

-- the class, its superclass, and so on upwards, at most so many
unfoldable pub chain_within : ℕ → World → List ℕ → List (List ℕ)
chain_within zero world name = []
chain_within (suc most) world name = name ∷ flat_map (chain_within most world) (superclass_of world name)

-- the interfaces above a class: each before its own, those of the class before those of its superclass
unfoldable pub interfaces_within : ℕ → World → List ℕ → List (List ℕ)
interfaces_within zero world name = []
interfaces_within (suc most) world name =
    flat_map (λ i. i ∷ interfaces_within most world i) (interfaces_of world name)
    ++ flat_map (interfaces_within most world) (superclass_of world name)

-- where a field is looked for: the class, then through its interfaces in order, then its superclass
unfoldable pub field_order_within : ℕ → World → List ℕ → List (List ℕ)
field_order_within zero world name = []
field_order_within (suc most) world name =
    name ∷ flat_map (field_order_within most world) (interfaces_of world name)
    ++ flat_map (field_order_within most world) (superclass_of world name)

-- No chain of a linked world is longer than it has classes.
abbrev pub chain : World → List ℕ → List (List ℕ)
chain world name = chain_within (length world.classes) world name

abbrev pub field_order : World → List ℕ → List (List ℕ)
field_order world name = each_once [] (field_order_within (length world.classes) world name)

-- where a method is looked for: the class and upwards, then the interfaces
abbrev pub method_order : World → List ℕ → List (List ℕ)
method_order world name = each_once [] (chain world name ++ interfaces_within (length world.classes) world name)

-- the first type is the second or below it
abbrev pub is_sub : World → List ℕ → List ℕ → Bool
is_sub world below above = list_any (bytes_eq above) (field_order world below)
