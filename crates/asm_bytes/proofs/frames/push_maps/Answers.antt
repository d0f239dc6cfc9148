-- An attribute behind its name and its length.
use Rattle.std.proofs.Common.{◌++◌, ap, ◌∙◌}
use Rattle.std.proofs.lemmas.Result.{on_ok_weaker}
use Rattle.assembler_model.specs.AssemblerPool.{index_in}
use Rattle.assembler_model.specs.CodeFaults.{frames_of, target_in}
use Rattle.assembler_model.specs.PoolEntries.{text_entry}
use Rattle.asm_parts.specs.Pools.{entries_in}
use Rattle.asm_pool.proofs.NeedLemmas.{map_name}
use Rattle.asm_code.specs.Labels.{labels_in}
use Rattle.asm_code.specs.Places.{lines_of}
use Rattle.asm_bytes.proofs.FrameLemmas.{maps_pushed}
use Rattle.asm_bytes.proofs.frames.push_maps.Goals as goal

pub returns : goal.returns
returns c =
    let entries = entries_in c.args.pool.now in
    let target = target_in (labels_in c.args.code.now.labels.entries) in
    let frames = frames_of (lines_of c.args.code.now.lines.items) in
    on_ok_weaker c.append.result
    (λ last. maps_pushed entries target frames c.args.bytes.now.items c.push_u2-2.new.bytes.items c.push_u2-3.new.bytes.items
    c.push_u4.new.bytes.items c.append.new.self.items c.in_ok-map.map.items c.index_of.result c.len.result
    (λ none. c.if-count-eq0.false (c.frame_count-count.ensures ∙ none)) c.in_ok-map.ensures
    (c.index_of.ensures ∙ ap (λ name. index_in entries (text_entry name)) map_name) c.len.ensures
    c.in_ok-push_u2.ensures c.in_ok-push_u2-2.ensures c.in_ok-push_u4.ensures
    (last ∙ ap (λ more. c.push_u4.new.bytes.items ++ more) c.as_slice.ensures))
    c.append.ensures.ok
