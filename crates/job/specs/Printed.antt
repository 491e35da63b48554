-- What printing a fault of the command line comes to: the status, and what the output and the error sink took. A sink
-- that doesn't tell its bytes is none here.
use Rattle.std.specs.Prelude.{◌≡◌, ℕ, ◌<◌, ◌⊎◌, List, Option, codes}
use Rattle.std.specs.Io.KnownBytes.{Appends}
use Rattle.clap.specs.Words.{kind_of}
use Rattle.clap.specs.declared.error.Error.{Error}
use Rattle.clap.specs.declared.error.kind.ErrorKind.{ErrorKind}
use Rattle.clap.specs.declared.error.kind.ErrorKind.TheVariants.{DisplayHelp, DisplayVersion}
use Rattle.ends.specs.Prelude.{AppendsFront, TookLine, memory_line, message, output_line}
use Rattle.job.specs.declared.fault.JobFault.{JobFault}
use Rattle.job.specs.declared.fault.JobFault.TheVariants.{Line, Unread, NoQuery, TwoQueries, UnknownOutput, InputTwice, NoMemory}

-- What was asked for is help or the version.
abbrev pub IsInquiry : ErrorKind → Type 0
IsInquiry kind = (kind ≡ DisplayHelp) ⊎ (kind ≡ DisplayVersion)

abbrev pub arguments_line : List ℕ
arguments_line = message (codes "bad arguments")

abbrev pub no_query_line : List ℕ
no_query_line = message (codes "query wants --query or --query-file")

abbrev pub two_queries_line : List ℕ
two_queries_line = message (codes "--query and --query-file are two queries")

abbrev pub input_twice_line : List ℕ
input_twice_line = message (codes "- is standard input, which is read once")

abbrev pub unknown_output_line : List ℕ
unknown_output_line = message (codes "--output is lines, json or csv")

module _ (status out_failed out_failures : ℕ) (out_old out_new : Option (List ℕ)) (err_failed err_failures : ℕ) (err_old err_new : Option (List ℕ)) where
  -- A line on the error sink, and nothing on the output.
  abbrev pub PrintedError : ℕ → List ℕ → Type 0
  PrintedError wanted text = (status ≡ wanted) × (out_new ≡ out_old) × TookLine text err_failed err_failures err_old err_new

  -- Help or the version: all of it went to the output, or the output failed and that was reported.
  pub data PrintedHelp (text : List ℕ) : Type 0 where
    helped : status ≡ 0 → Appends out_old out_new text → err_new ≡ err_old → PrintedHelp text
    output_failed : status ≡ 1 → out_failed < out_failures → AppendsFront out_old out_new text
        → TookLine output_line err_failed err_failures err_old err_new → PrintedHelp text

  -- An error of `clap`, by a text of `clap`: help, the version, or a mistake in the words. That memory ran out may be reported in its place.
  pub data PrintedLine (error : Error) : Type 0 where
    help : IsInquiry (kind_of error) → (text : List ℕ) → PrintedHelp text → PrintedLine error
    mistake : (IsInquiry (kind_of error) → ⊥) → (text : List ℕ) → PrintedError 2 text → PrintedLine error
    not_built : PrintedError 1 memory_line → PrintedLine error

  abbrev pub Printed : JobFault → Type 0
  Printed (Line error) = PrintedLine error
  Printed Unread = PrintedError 2 arguments_line
  Printed NoQuery = PrintedError 2 no_query_line
  Printed TwoQueries = PrintedError 2 two_queries_line
  Printed UnknownOutput = PrintedError 2 unknown_output_line
  Printed InputTwice = PrintedError 2 input_twice_line
  Printed NoMemory = PrintedError 1 memory_line
