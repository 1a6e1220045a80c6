-- What lines say of their reader, and an output of its writer.
use Rattle.std.specs.Prelude.{ℕ, List, [], Option, Some, if◌then◌else◌}
use Rattle.std.specs.Io.Buffered.{reader_inner, reader_remaining, writer_buffer, writer_contents}
use Rattle.ipc_lines.specs.declared.lines.Lines.{Lines}
use Rattle.ipc_lines.specs.declared.output.Output.{Output}

-- how many more reads are made at most
abbrev pub reads_left : {R : Type 0} → Lines R → ℕ
reads_left lines = (reader_inner lines.input).left

-- how many lines were read
abbrev pub lines_read : {R : Type 0} → Lines R → ℕ
lines_read lines = lines.count

-- the bytes of the line that was read last
abbrev pub last_line : {R : Type 0} → Lines R → List ℕ
last_line lines = lines.line.items

-- the bytes that the reader is yet to give and those that wait in its block, where the reader's bytes are known
abbrev pub unread_input : {R : Type 0} → (R → Option (List ℕ)) → Lines R → Option (List ℕ)
unread_input remaining lines = reader_remaining (λ counted. remaining counted.reader) lines.input

-- the same, of which lines are yet to come; none, once the end was met
abbrev pub unread : {R : Type 0} → (R → Option (List ℕ)) → Lines R → Option (List ℕ)
unread remaining lines = if lines.is_over then Some [] else unread_input remaining lines

-- what waits in the block
abbrev pub waiting : {W : Type 0} → Output W → List ℕ
waiting output = writer_buffer output.writer

-- what the writer was given and what waits in the block, where the writer's bytes are known
abbrev pub written : {W : Type 0} → (W → Option (List ℕ)) → Output W → Option (List ℕ)
written contents output = writer_contents contents output.writer
