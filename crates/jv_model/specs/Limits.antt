-- How much a program may bring, and how much it may do.
use Rattle.std.specs.Prelude.{ℕ}

-- ---- files and texts

-- how many bytes a manifest, an update's text or a class file has at the most
abbrev pub most_file_bytes : ℕ
most_file_bytes = 1048576

-- how many bytes the class files that a manifest and its updates name have together at the most
abbrev pub most_all_files_bytes : ℕ
most_all_files_bytes = 16777216

-- how many bytes a journal has at the most
abbrev pub most_journal_bytes : ℕ
most_journal_bytes = 268435456

-- how many class items a manifest has at the most
abbrev pub most_classes : ℕ
most_classes = 1024

-- how many updates it has at the most
abbrev pub most_updates : ℕ
most_updates = 16

-- the greatest number of steps after which an update can be said to be ready
abbrev pub most_request_step : ℕ
most_request_step = 20000000

-- how many attempts an update may ask for
abbrev pub most_attempts : ℕ
most_attempts = 1000

-- how many instructions its transformers may make
abbrev pub most_budget : ℕ
most_budget = 10000000

-- ---- code and frames

-- how many bytes the code of a method has at the most (JVMS 4.7.3)
abbrev pub most_code_bytes : ℕ
most_code_bytes = 65535

-- how many words a frame has for its locals and its stack at the most
abbrev pub most_frame_words : ℕ
most_frame_words = 4096

-- how many frames a thread has at the most, and how many words they have together
abbrev pub most_frames : ℕ
most_frames = 1024

abbrev pub most_stack_words : ℕ
most_stack_words = 16384

-- ---- runs

-- how many threads there ever are
abbrev pub most_threads : ℕ
most_threads = 64

-- how many bytes a program prints
abbrev pub most_output_bytes : ℕ
most_output_bytes = 16777216

-- how many steps an entry of the journal has at the most, and a turn of round robin
abbrev pub most_entry_steps : ℕ
most_entry_steps = 4096

abbrev pub most_slice_steps : ℕ
most_slice_steps = 64

-- after so many steps an update is attempted again, whatever happened since
abbrev pub most_steps_between : ℕ
most_steps_between = 10000
