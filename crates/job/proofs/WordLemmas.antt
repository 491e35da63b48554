-- What `clap` says of the words, at the program's command line.
use Rattle.std.proofs.Common.{◌≡◌, ◌≢◌, ◌∙◌, ◌<◌, ◌^◌, ℕ, List, [], Bool, true, false, ap, arith, codes, refl, slice_index_or, subst, sym, inl, inr}
use Rattle.std.proofs.lemmas.Option.{same_Some}
use Rattle.std.specs.Prelude.{Option, None, Some, option_map}
use Rattle.clap.proofs.OnLiterals.{clap_on_literals}
use Rattle.clap.specs.Words.{App, HasKind, HasMatchesOf, IsAmong, Row, Text, fault_of, is_simple, is_simple_and_free, kind_of, subcommand_of, subcommand_rows_of, takes}
use Rattle.clap.specs.declared.error.Error.{Error}
use Rattle.clap.specs.declared.parser.matches.ArgMatches.{ArgMatches}
use Rattle.clap.specs.declared.error.kind.ErrorKind.TheVariants.{OutOfMemory}
use Rattle.job.specs.Prelude.{Asks, Finds, FindsInputTwice, FindsNone, FindsQuery, HasNoOutput, HasNoQuery, HasNoWorkers, HasNumber, HasOwn, HasTwoQueries, HasWorkers, IsFaultOf, IsNumber, IsUnfound, RefusesWords, arrowtab, word_of}
use Rattle.job.specs.declared.fault.JobFault.{JobFault}
use Rattle.job.specs.declared.fault.JobFault.TheVariants.{Line, Unread, NoQuery, TwoQueries, UnknownOutput, InputTwice, NoMemory}
use Rattle.job.specs.declared.jobs.Command.{Command}
use Rattle.job.specs.declared.jobs.Command.TheVariants as command
use Rattle.job.specs.declared.jobs.Job.{Job}

-- `clap` has an exact function of the words for this command line
pub is_free_line : is_simple_and_free arrowtab ≡ true
unfolding clap_on_literals
is_free_line = refl

-- and of what is found in them
is_simple_line : is_simple arrowtab ≡ true
unfolding clap_on_literals
is_simple_line = refl

-- words that a command like this one takes have no fault
pub taken_here : (a : App) (words : List Text) → a ≡ arrowtab → (is_simple_and_free a ≡ true → fault_of a words ≡ []) → fault_of arrowtab words ≡ []
taken_here a words same taken = subst (λ (b : App). is_simple_and_free b ≡ true → fault_of b words ≡ []) same taken is_free_line

-- and what such a command finds in them is found here
pub found_here : (a : App) (words : List Text) (m : ArgMatches) → a ≡ arrowtab → HasMatchesOf a words m → subcommand_rows_of m ≡ subcommand_of arrowtab words
found_here a words m same matches = (subst (λ (b : App). HasMatchesOf b words m) same matches is_simple_line).1

-- a job that is found in matches of the words is what they ask for
pub found_asked : (words : List Text) (found : Option (Text × List Row)) (job : Job) → fault_of arrowtab words ≡ [] → found ≡ subcommand_of arrowtab words → Finds found job → Asks words job
found_asked words found job taken same finds = record { taken = taken; finds = subst (λ f. Finds f job) same finds }

-- .. and where none is found, they ask for none
pub unfound_fault : (words : List Text) (found : Option (Text × List Row)) (fault : JobFault) → fault_of arrowtab words ≡ [] → found ≡ subcommand_of arrowtab words → IsUnfound found fault
    → IsFaultOf words fault
unfound_fault words found (Line error) taken same why = absurd why
unfound_fault words found Unread taken same why = (taken, subst FindsNone same why)
unfound_fault words found NoQuery taken same why = (taken, subst (λ f. FindsQuery f HasNoQuery) same why)
unfound_fault words found TwoQueries taken same why = (taken, subst (λ f. FindsQuery f HasTwoQueries) same why)
unfound_fault words found UnknownOutput taken same why = (taken, subst (λ f. FindsQuery f HasNoOutput) same why)
unfound_fault words found InputTwice taken same why = (taken, subst FindsInputTwice same why)
unfound_fault words found NoMemory taken same why = tt

is_not_true : (b : Bool) → b ≢ true → b ≡ false
is_not_true true other = absurd (other refl)
is_not_true false other = refl

among : (words : List Text) (error : Error) → kind_of error ≢ OutOfMemory → HasKind (fault_of arrowtab words) error → IsAmong (kind_of error) (fault_of arrowtab words)
among words error other (inl out) = absurd (other out)
among words error other (inr kind) = kind

-- an error that isn't want of memory is a refusal
pub refused : (words : List Text) (error : Error) → (takes arrowtab words ≡ true → kind_of error ≡ OutOfMemory) → HasKind (fault_of arrowtab words) error
    → kind_of error ≢ OutOfMemory → RefusesWords words error
refused words error passes kinds other = record {
  refused = is_not_true (takes arrowtab words) (λ taken. other (passes taken));
  kind = among words error other kinds;
  of_words = other;
}

-- a text that is there, and whose number is known wherever it is
pub number_there : (text : Option Text) (n : ℕ) → text ≢ None → ((t : Text) → text ≡ Some t → IsNumber t n) → (t : Text) × (text ≡ Some t) × IsNumber t n
number_there None n there value = absurd (there refl)
number_there (Some t) n there value = (t, refl, value t refl)

-- a job that is found has a number of workers
pub none_numbered : (found : Option (Text × List Row)) (rows : List Row) → Some rows ≡ option_map (λ (p : Text × List Row). p.1) found → HasNoWorkers rows → FindsNone found
none_numbered found rows is none job finds ready =
    let same : Some rows ≡ Some finds.rows = is ∙ ap (option_map (λ (p : Text × List Row). p.1)) finds.command in
    none job.workers (subst (λ r. HasWorkers r job.workers) (sym (same_Some rows finds.rows same)) finds.workers) ready.worker ready.few

-- what a text begins with
abbrev first : Text → ℕ
first t = slice_index_or t 0 0

-- no command of this word has a number of rows
pub no_head : (rows : List Row) → ((count : ℕ) → HasNumber (codes "ROWS") rows count → count < 2 ^ 64 → ⊥) → (command : Command) → codes "head" ≡ word_of command → HasOwn rows command → ⊥
no_head rows none command.Stats same own = absurd (omega (arith, ap first same))
no_head rows none command.Schema same own = absurd (omega (arith, ap first same))
no_head rows none command.Validate same own = absurd (omega (arith, ap first same))
no_head rows none (command.Head count) same own = none count own.0 own.1
no_head rows none command.Export same own = absurd (omega (arith, ap first same))
no_head rows none (command.Query source output) same own = absurd (omega (arith, ap first same))
