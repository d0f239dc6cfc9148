use Rattle.std.proofs.Common.{rules, ◌<◌, ◌≤◌, length, ap, arith}
use Rattle.std.proofs.lemmas.Result.{err_from_is_err_and}
use Rattle.jv_model.specs.Limits.{most_file_bytes}
use Rattle.jv_model.specs.Refusal.{above_limit, whole_file}
use Rattle.load_model.specs.Loading.{file_at}
use Rattle.class_loader.specs.Outside.{read}
use Rattle.class_loader.proofs.Loaders.{file_loads, file_stops, file_is_long, read_why}
use Rattle.class_loader.proofs.file.read_file.Goals as goal

pub returns-in_err-bytes-clause-loaded : goal.returns-in_err-bytes-clause-loaded
returns-in_err-bytes-clause-loaded g c =
    let error = err_from_is_err_and c.from_residual.result c.from_residual.ensures.1 in
    let files =
    read g.F.Files.folder g.F.Files.asked g.F.Files.faults c.args.files.now c.read.new.self in
    rw (error.1, error.2)
    (file_stops most_file_bytes c.args.item c.args.sub c.args.name.now files
    c.in_err-bytes.ensures.asked _
    (read_why files
    (λ folder. file_at folder c.args.name.now most_file_bytes c.args.item c.args.sub) _
    c.in_err-bytes.ensures.cause))

pub returns-then-count-gt-MOST_FILE_BYTES-clause-loaded :
    goal.returns-then-count-gt-MOST_FILE_BYTES-clause-loaded
returns-then-count-gt-MOST_FILE_BYTES-clause-loaded g c =
    let long : most_file_bytes < length c.in_ok-bytes.bytes.items = omega arith in
    file_is_long most_file_bytes c.args.item c.args.sub c.args.name.now _
    c.in_ok-bytes.ensures.asked c.in_ok-bytes.bytes.items _
    c.in_ok-bytes.ensures.bytes long c.in_ok-bytes.ensures.cause.ok
    (ap (above_limit whole_file) (search rules))

pub returns-clause-loaded : goal.returns-clause-loaded
returns-clause-loaded g c =
    let short : length c.in_ok-bytes.bytes.items ≤ most_file_bytes = omega arith in
    file_loads most_file_bytes c.args.item c.args.sub c.args.name.now _ c.in_ok-bytes.ensures.asked
    c.in_ok-bytes.bytes.items
    c.in_ok-bytes.ensures.bytes short c.in_ok-bytes.ensures.cause.ok
