-- The operands of `tableswitch` and of `lookupswitch`.
use Rattle.std.proofs.Common.{◌≡◌, ℕ, zero, suc, ◌+◌, ◌-◌, ◌%◌, ◌≤◌, List, [], ◌∷◌, ◌++◌, length, map, Option, Some, None, refl, sym, ap, subst, arith, ℤ, IsTrue, append_assoc}
use Rattle.std.specs.Prelude.{pos, ◌+ℤ◌, int_le}
use Rattle.std.specs.List.{flat_map, AllByRecursion}
use Rattle.std.proofs.lemmas.Int.{ints}
use Rattle.jv_model.specs.Flow.{targets_of}
use Rattle.jv_model.specs.Instruction.{Instruction, tableswitch, lookupswitch}
use Rattle.code_model.specs.OperandReading.{Site, targets_at, padding_at, keys_between, table_at, is_above, pairs_at, lookup_at}
use Rattle.code_model.specs.SpellsOperands.{FitsAsSigned, signed_bytes, offset_bytes, IsNear, IsPadding, SpellsTableswitch, SpellsLookupswitch, pair_bytes, Rise}
use Rattle.class_laws.proofs.Numbers.{all_bytes, IsBytes-from_all}
use Rattle.class_laws.proofs.Readers.{Spelling, Reads, Then, Reads-then, Made, Reads-map, Holding, Reads-where, Reads-ok, Spelt, number_reads, IsRun, run_reads, spelt_then}
use Rattle.code_laws.proofs.Signed.{Number, four_bytes, Signed, signed_reads, Led, target_reads, IsPlace}
use Rattle.code_laws.proofs.Targets.{led_is_near, near_is_led, Targets, targets_reads, targets_are_near, near_are_targets}

-- ---- padding

-- so many bytes as there are up to a place that 4 divides
abbrev pub Padding : Spelling (List ℕ)
Padding at text padding = Spelt (λ bytes. bytes) (IsRun ((4 - at % 4) % 4)) at text padding

-- padding is read, whatever its bytes are
padding_reads : Reads padding_at Padding
padding_reads = record {
  takes = λ input x e fits.
      let taken = (run_reads ((4 - input.at % 4) % 4)).takes input x e fits in
      record { text = taken.text; takes = taken.takes; spelled = taken.spelled };
  finds = λ at text x spelled. (run_reads ((4 - at % 4) % 4)).finds at text x spelled;
}

-- what is read behind an opcode at pc is padding there
padding_taken :
    (pc at : ℕ) (text padding : List ℕ) → at ≡ pc + 1 → Padding at text padding
    → IsPadding pc padding
padding_taken pc at text padding here is = record {
  aligned = omega (arith, here, is.right.0);
  short = omega (arith, is.right.0);
  bytes = all_bytes padding is.right.1;
}

-- padding there is read behind an opcode at pc
padding_found :
    (pc : ℕ) (padding : List ℕ) → IsPadding pc padding → Padding (pc + 1) padding padding
padding_found pc padding is = record {
  text_is = refl;
  right = (omega (arith, is.aligned, is.short), IsBytes-from_all padding is.bytes);
}

-- ---- `tableswitch`

-- a target for each key from the lowest up to the highest
abbrev KeyTargets : ℕ → ℕ → ℤ → ℤ → Spelling (Instruction ℕ)
KeyTargets pc otherwise low high =
    Holding (IsTrue (int_le low high))
    (Made (tableswitch otherwise low) (Targets pc (keys_between low high)))

abbrev pub Table : ℕ → Spelling (Instruction ℕ)
Table pc =
    Then Padding (λ padding. Then (Led pc 4) (λ otherwise.
    Then (Signed 4) (λ low. Then (Signed 4) (λ high. KeyTargets pc otherwise low high))))

-- a tableswitch is read, field by field
pub table_reads : (site : Site) → Reads (table_at site) (Table site.pc)
unfolding table_at
table_reads site =
    Reads-then _ padding_reads (λ padding.
    Reads-then _ (target_reads site 4 four_bytes) (λ otherwise.
    Reads-then _ (signed_reads 4 four_bytes) (λ low.
    Reads-then _ (signed_reads 4 four_bytes) (λ high.
    Reads-where {make = λ rest. rest} _ (int_le low high) _ (
    Reads-map (targets_at site (keys_between low high)) (Targets site.pc (keys_between low high))
    (tableswitch otherwise low) (targets_reads site (keys_between low high)))))))

-- as many as the keys from the lowest up to the highest
keys_counted :
    (low high : ℤ) (count : ℕ) → IsTrue (int_le low high) → count ≡ keys_between low high
    → (1 ≤ count) × (low +ℤ pos count ≡ high +ℤ pos 1)
keys_counted low high count ordered e = (omega (arith, ints), omega (arith, ints))

-- where there is a key, the lowest isn't above the highest
in_order :
    (low high : ℤ) (count : ℕ) → 1 ≤ count → low +ℤ pos count ≡ high +ℤ pos 1
    → IsTrue (int_le low high)
in_order low high count some e = grind (arith, ints)

-- a count of the keys
counted_keys :
    (low high : ℤ) (count : ℕ) → 1 ≤ count → low +ℤ pos count ≡ high +ℤ pos 1
    → count ≡ keys_between low high
counted_keys low high count some e = omega (arith, ints)

-- a tableswitch that is read is spelled, where its targets are places
pub table_spelled :
    (pc at : ℕ) (text : List ℕ) (instruction : Instruction ℕ) → IsPlace pc → at ≡ pc + 1
    → AllByRecursion IsPlace (targets_of instruction) → Table pc at text instruction
    → SpellsTableswitch pc text instruction
unfolding targets_of
table_spelled pc at text instruction here place places table =
    let otherwise = table.others in
    let low = otherwise.others in
    let high = low.others in
    let made = high.others.1 in
    let its : AllByRecursion IsPlace
    (targets_of {A = ℕ} (tableswitch otherwise.first low.first made.0)) =
    subst (λ (i : Instruction ℕ). AllByRecursion IsPlace (targets_of i)) made.2 places in
    let first =
    led_is_near pc 4 four_bytes here _ otherwise.front otherwise.first its.0 otherwise.spelled
    in
    let others =
    targets_are_near pc here (keys_between low.first high.first) _ high.rest made.0 its.1 made.1
    in (
      otherwise.first,
      low.first,
      made.0,
      record {
        high = high.first;
        padding = table.first;
        padded = padding_taken pc at table.front table.first place table.spelled;
        keys = (low.spelled.right, high.spelled.right);
        offsets = (first.1, others.near);
        each_key = keys_counted low.first high.first (length made.0) high.others.0 others.as_many;
        spelled =
            rw (
              table.parts,
              otherwise.parts,
              low.parts,
              high.parts,
              table.spelled.text_is,
              first.0,
              low.spelled.text_is,
              high.spelled.text_is,
              others.text_is,
            ) refl;
      },
      made.2,
    )

-- a tableswitch that is spelled is read
pub spelled_table :
    (pc : ℕ) (text : List ℕ) (instruction : Instruction ℕ) → SpellsTableswitch pc text instruction
    → Table pc (pc + 1) text instruction
spelled_table pc text instruction (otherwise, low, targets, spells, is) =
    let some = spells.each_key.0 in
    let counted = spells.each_key.1 in
    let many : (at : ℕ)
    → Targets pc (keys_between low spells.high) at (flat_map (offset_bytes 4 pc) targets) targets =
    λ at.
    subst (λ (n : ℕ). Targets pc n at (flat_map (offset_bytes 4 pc) targets) targets)
    (counted_keys low spells.high (length targets) some counted)
    (near_are_targets pc at targets spells.offsets.1) in
    record {
      first = spells.padding;
      front = spells.padding;
      rest = _;
      parts = spells.spelled;
      spelled = padding_found pc spells.padding spells.padded;
      others = record {
        first = otherwise;
        front = offset_bytes 4 pc otherwise;
        rest = _;
        parts = refl;
        spelled = near_is_led pc 4 _ otherwise spells.offsets.0;
        others =
            spelt_then low _ spells.keys.0 (spelt_then spells.high _ spells.keys.1
            (in_order low spells.high (length targets) some counted, (targets, many _, is)));
      };
    }

-- ---- `lookupswitch`

-- so many pairs of a key and a target, each key above the one before it
abbrev pub Pairs : ℕ → Option ℤ → ℕ → Spelling (List (ℤ × ℕ))
Pairs pc before zero at text pairs = (text ≡ []) × (pairs ≡ [])
Pairs pc before (suc count) at text pairs =
    Then (Signed 4) (λ key. Holding (IsTrue (is_above before key)) (Then (Led pc 4) (λ target.
    Made (λ (others : List (ℤ × ℕ)). (key, target) ∷ others)
    (Pairs pc (Some key) count)))) at text pairs

-- pairs are read one after the other
pairs_reads :
    (site : Site) (before : Option ℤ) (count : ℕ)
    → Reads (pairs_at site before count) (Pairs site.pc before count)
unfolding pairs_at
pairs_reads site before zero = Reads-ok []
pairs_reads site before (suc count) =
    Reads-then _ (signed_reads 4 four_bytes) (λ key.
    Reads-where {make = λ rest. (key, rest)} _ (is_above before key) _ (
    Reads-then _ (target_reads site 4 four_bytes) (λ target.
    Reads-map (pairs_at site (Some key) count) (Pairs site.pc (Some key) count)
    (λ (others : List (ℤ × ℕ)). (key, target) ∷ others) (pairs_reads site (Some key) count))))

abbrev pub Lookup : ℕ → Spelling (Instruction ℕ)
Lookup pc =
    Then Padding (λ padding. Then (Led pc 4) (λ otherwise.
    Then (Number 4) (λ count. Made (lookupswitch otherwise) (Pairs pc None count))))

-- a lookupswitch is read, field by field
pub lookup_reads : (site : Site) → Reads (lookup_at site) (Lookup site.pc)
unfolding lookup_at
lookup_reads site =
    Reads-then _ padding_reads (λ padding.
    Reads-then _ (target_reads site 4 four_bytes) (λ otherwise.
    Reads-then _ (number_reads 4) (λ count.
    Reads-map (pairs_at site None count) (Pairs site.pc None count) (lookupswitch otherwise)
    (pairs_reads site None count))))

abbrev RiseFrom : Option ℤ → List (ℤ × ℕ) → Type 0
RiseFrom before [] = Unit {0}
RiseFrom before (pair ∷ pairs) = IsTrue (is_above before pair.0) × RiseFrom (Some pair.0) pairs

-- keys that rise from one on rise with it in front
rises_behind :
    (pair : ℤ × ℕ) (pairs : List (ℤ × ℕ)) → RiseFrom (Some pair.0) pairs → Rise (pair ∷ pairs)
rises_behind pair [] rise = tt
rises_behind pair (next ∷ pairs) rise = (rise.0, rises_behind next pairs rise.1)

-- keys that rise, each looked at with the one before it
rises : (pairs : List (ℤ × ℕ)) → RiseFrom None pairs → Rise pairs
rises [] rise = tt
rises (pair ∷ pairs) rise = rises_behind pair pairs rise.1

-- keys that rise with one in front rise from it on
rise_behind :
    (pair : ℤ × ℕ) (pairs : List (ℤ × ℕ)) → Rise (pair ∷ pairs) → RiseFrom (Some pair.0) pairs
rise_behind pair [] rise = tt
rise_behind pair (next ∷ pairs) rise = (rise.0, rise_behind next pairs rise.1)

-- keys that rise pass, each looked at with the one before it
rise : (pairs : List (ℤ × ℕ)) → Rise pairs → RiseFrom None pairs
rise [] rising = tt
rise (pair ∷ pairs) rising = (refl, rise_behind pair pairs rising)

abbrev targets_in : List (ℤ × ℕ) → List ℕ
targets_in pairs = map (λ (pair : ℤ × ℕ). pair.1) pairs

abbrev KeysFit : List (ℤ × ℕ) → Type 0
KeysFit pairs = AllByRecursion (λ (pair : ℤ × ℕ). FitsAsSigned 4 pair.0) pairs

record SpelledPairs (pc : ℕ) (before : Option ℤ) (count : ℕ) (text : List ℕ)
    (pairs : List (ℤ × ℕ)) : Type 0 where
  as_many : length pairs ≡ count
  keys : KeysFit pairs
  rise : RiseFrom before pairs
  offsets : AllByRecursion (IsNear 4 pc) (targets_in pairs)
  text_is : text ≡ flat_map (pair_bytes pc) pairs

-- pairs that are read are spelled, where they lead to places
pairs_spelled :
    (pc : ℕ) → IsPlace pc
    → (before : Option ℤ) (count at : ℕ) (text : List ℕ) (pairs : List (ℤ × ℕ))
    → AllByRecursion IsPlace (targets_in pairs) → Pairs pc before count at text pairs
    → SpelledPairs pc before count text pairs
pairs_spelled pc here before zero at text pairs places many =
    rw (many.0, many.1) (record {
      as_many = refl;
      keys = tt;
      rise = tt;
      offsets = tt;
      text_is = refl;
    })
pairs_spelled pc here before (suc count) at text pairs places many =
    let target = many.others.1 in
    let made = target.others in
    let its : AllByRecursion IsPlace (targets_in ((many.first, target.first) ∷ made.0)) =
    subst (λ (xs : List (ℤ × ℕ)). AllByRecursion IsPlace (targets_in xs)) made.2 places in
    let near = led_is_near pc 4 four_bytes here _ target.front target.first its.0 target.spelled in
    let others = pairs_spelled pc here (Some many.first) count _ target.rest made.0 its.1 made.1 in
    subst (λ (xs : List (ℤ × ℕ)). SpelledPairs pc before (suc count) text xs) (sym made.2) (record {
      as_many = ap suc others.as_many;
      keys = (many.spelled.right, others.keys);
      rise = (many.others.0, others.rise);
      offsets = (near.1, others.offsets);
      text_is =
          rw (many.parts, target.parts, many.spelled.text_is, near.0, others.text_is)
          (sym (append_assoc (signed_bytes 4 many.first) (offset_bytes 4 pc target.first)
          (flat_map (pair_bytes pc) made.0)));
    })

-- pairs that are spelled are read
spelled_pairs :
    (pc : ℕ) (before : Option ℤ) (at : ℕ) (pairs : List (ℤ × ℕ)) → KeysFit pairs
    → RiseFrom before pairs
    → AllByRecursion (IsNear 4 pc) (targets_in pairs)
    → Pairs pc before (length pairs) at (flat_map (pair_bytes pc) pairs) pairs
spelled_pairs pc before at [] keys rising offsets = (refl, refl)
spelled_pairs pc before at (pair ∷ pairs) keys rising offsets = record {
  first = pair.0;
  front = signed_bytes 4 pair.0;
  rest = offset_bytes 4 pc pair.1 ++ flat_map (pair_bytes pc) pairs;
  parts =
      append_assoc (signed_bytes 4 pair.0) (offset_bytes 4 pc pair.1)
      (flat_map (pair_bytes pc) pairs);
  spelled = record { text_is = refl; right = keys.0 };
  others = (
    rising.0,
    record {
      first = pair.1;
      front = offset_bytes 4 pc pair.1;
      rest = flat_map (pair_bytes pc) pairs;
      parts = refl;
      spelled = near_is_led pc 4 _ pair.1 offsets.0;
      others = (pairs, spelled_pairs pc (Some pair.0) _ pairs keys.1 rising.1 offsets.1, refl);
    },
  );
}

-- a lookupswitch that is read is spelled, where its targets are places
pub lookup_spelled :
    (pc at : ℕ) (text : List ℕ) (instruction : Instruction ℕ) → IsPlace pc → at ≡ pc + 1
    → AllByRecursion IsPlace (targets_of instruction) → Lookup pc at text instruction
    → SpellsLookupswitch pc text instruction
unfolding targets_of
lookup_spelled pc at text instruction here place places lookup =
    let otherwise = lookup.others in
    let count = otherwise.others in
    let made = count.others in
    let its : AllByRecursion IsPlace (targets_of {A = ℕ} (lookupswitch otherwise.first made.0)) =
    subst (λ (i : Instruction ℕ). AllByRecursion IsPlace (targets_of i)) made.2 places in
    let first =
    led_is_near pc 4 four_bytes here _ otherwise.front otherwise.first its.0 otherwise.spelled
    in
    let others = pairs_spelled pc here None count.first _ count.rest made.0 its.1 made.1 in (
      otherwise.first,
      made.0,
      record {
        padding = lookup.first;
        padded = padding_taken pc at lookup.front lookup.first place lookup.spelled;
        count = rw others.as_many count.spelled.right;
        keys = (others.keys, rises made.0 others.rise);
        offsets = (first.1, others.offsets);
        spelled =
            rw (
              lookup.parts,
              otherwise.parts,
              count.parts,
              lookup.spelled.text_is,
              first.0,
              count.spelled.text_is,
              others.text_is,
              others.as_many,
            ) refl;
      },
      made.2,
    )

-- a lookupswitch that is spelled is read
pub spelled_lookup :
    (pc : ℕ) (text : List ℕ) (instruction : Instruction ℕ) → SpellsLookupswitch pc text instruction
    → Lookup pc (pc + 1) text instruction
spelled_lookup pc text instruction (otherwise, pairs, spells, is) = record {
  first = spells.padding;
  front = spells.padding;
  rest = _;
  parts = spells.spelled;
  spelled = padding_found pc spells.padding spells.padded;
  others = record {
    first = otherwise;
    front = offset_bytes 4 pc otherwise;
    rest = _;
    parts = refl;
    spelled = near_is_led pc 4 _ otherwise spells.offsets.0;
    others =
        spelt_then (length pairs) (flat_map (pair_bytes pc) pairs) spells.count (
          pairs,
          spelled_pairs pc None _ pairs spells.keys.0
              (rise pairs spells.keys.1) spells.offsets.1,
          is,
        );
  };
}
