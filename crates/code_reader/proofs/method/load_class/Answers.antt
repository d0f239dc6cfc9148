use Rattle.std.proofs.Common.{Ok, Err}
use Rattle.jv_types.specs.ClassData.{class_data_of}
use Rattle.code_reader.specs.Method.{codes_of}
use Rattle.code_reader.proofs.Clauses.{codes_found, codes_only}
use Rattle.code_reader.proofs.method.load_class.Goals as goal

pub returns-in-Ok-clause-found : goal.returns-in-Ok-clause-found
returns-in-Ok-clause-found c = λ profile.
    codes_found codes_of (class_data_of c.args.file) (Ok c.in-Ok.codes.items) profile
    c.in-Ok.ensures.codes

pub returns-in-Ok-clause-only : goal.returns-in-Ok-clause-only
returns-in-Ok-clause-only c = λ profile codes spelled.
    codes_only codes_of (class_data_of c.args.file) (Ok c.in-Ok.codes.items) codes profile
    spelled c.in-Ok.ensures.codes

pub returns-in-Err-clause-only : goal.returns-in-Err-clause-only
returns-in-Err-clause-only c = λ profile codes spelled.
    codes_only codes_of (class_data_of c.args.file) (Err c.in-Err.error) codes profile spelled
    c.in-Err.ensures.codes
