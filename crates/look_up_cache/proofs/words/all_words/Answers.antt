use Rattle.std.proofs.Common.{◌+◌, ◌∷◌, [], ℕ, length, map, sym, ap, subst, ◌∙◌, arith}
use Rattle.std.proofs.lemmas.List.{map-append}
use Rattle.std.proofs.lemmas.Option.{slice_get_within}
use Rattle.world_model.specs.World.{Class}
use Rattle.jv_types.specs.declared.number.ClassNo.{ClassNo}
use Rattle.class_world.specs.World.{names_of}
use Rattle.look_up_cache.specs.Words.{AreInside, AreWordsOf}
use Rattle.look_up_cache.proofs.Layouts.{layout_there, are_inside}
use Rattle.look_up_cache.proofs.Rows.{RowsSoFar, rows_begin, rows_more, rows_all, fields_are}
use Rattle.look_up_cache.proofs.words.all_words.Goals as goal

pub loop-class-init : goal.loop-class-init
loop-class-init c = rows_begin c.args.world.now c.args.versions.now.layouts.fields.items c.new-rows.result.items c.new-rows.ensures

pub layout-requires : goal.layout-requires
layout-requires c =
    let layouts = c.args.versions.now.layouts.fields.items in
    let known = layout_there c.args.world.now c.requires.apart layouts c.requires.layouts.fields c.loop-class.class c.class.ensures.0 c.class.ensures.1 in
    slice_get_within layouts c.loop-class.class known.0 known.1

pub words_of-requires : goal.words_of-requires
words_of-requires c =
    let world = c.args.world.now in
    let row = c.layout.result.now in
    let number : ClassNo = record { 0 = c.loop-class.class } in
    let count = c.field_count-count.ensures ∙ ap length (fields_are (names_of world) c.class.result.now.origin) ∙ ap (λ (k : Class). length k.fields) c.class.ensures.2.origin in
    subst (λ (n : ℕ). AreInside number n row.items) (sym count)
    (are_inside world c.requires.apart c.args.versions.now.layouts.fields.items c.requires.layouts.fields number c.class.ensures.0 row c.class.ensures.1 c.layout.ensures)

pub loop-class-preserved : goal.loop-class-preserved
loop-class-preserved c =
    let world = c.args.world.now in
    let layouts = c.args.versions.now.layouts.fields.items in
    let row = c.layout.result.now in
    let number : ClassNo = record { 0 = c.loop-class.class } in
    let count = c.field_count-count.ensures ∙ ap length (fields_are (names_of world) c.class.result.now.origin) ∙ ap (λ (k : Class). length k.fields) c.class.ensures.2.origin in
    let words = c.in_ok-words_of.field-0 in
    subst (λ rows. RowsSoFar world layouts rows (c.loop-class.class + 1))
    (sym (ap (map (λ row. row.items)) c.in_ok-push.ensures.ok ∙ map-append (λ row. row.items) c.loop-class.rows.items (words ∷ [])))
    (rows_more world layouts (map (λ row. row.items) c.loop-class.rows.items) c.loop-class.class c.class.ensures.0 row words.items
    c.class.ensures.1 c.layout.ensures (subst (λ (n : ℕ). AreWordsOf number n row.items words.items) count c.in_ok-words_of.ensures) c.loop-class.invariant)

pub returns : goal.returns
returns c =
    rows_all c.args.world.now c.args.versions.now.layouts.fields.items (map (λ row. row.items) c.loop-class.rows.items) c.loop-class.class
    (omega (arith, c.classes-class-end.ensures)) c.loop-class.invariant
