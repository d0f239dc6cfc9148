-- The names of the classes that are thrown.
use Rattle.std.specs.Prelude.{ℕ, List, codes}
use Rattle.machine_throws.specs.declared.outcome.Throwable.{Throwable}
use Rattle.machine_throws.specs.declared.outcome.Throwable.TheVariants.{AbstractMethod, Arithmetic, ArrayIndexOutOfBounds, ArrayStore, ClassCast, IllegalMonitorState, IllegalThreadState, IncompatibleClassChange, NegativeArraySize, NullPointer, StringIndexOutOfBounds}

abbrev pub name_of : Throwable → List ℕ
name_of AbstractMethod = codes "java/lang/AbstractMethodError"
name_of Arithmetic = codes "java/lang/ArithmeticException"
name_of ArrayIndexOutOfBounds = codes "java/lang/ArrayIndexOutOfBoundsException"
name_of ArrayStore = codes "java/lang/ArrayStoreException"
name_of ClassCast = codes "java/lang/ClassCastException"
name_of IllegalMonitorState = codes "java/lang/IllegalMonitorStateException"
name_of IllegalThreadState = codes "java/lang/IllegalThreadStateException"
name_of IncompatibleClassChange = codes "java/lang/IncompatibleClassChangeError"
name_of NegativeArraySize = codes "java/lang/NegativeArraySizeException"
name_of NullPointer = codes "java/lang/NullPointerException"
name_of StringIndexOutOfBounds = codes "java/lang/StringIndexOutOfBoundsException"
