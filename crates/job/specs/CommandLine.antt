-- The commands of the program, as `clap` knows them.
use Rattle.std.specs.Prelude.{ℕ, List, [], ◌∷◌, pos, true, Some, codes}
use Rattle.clap.specs.Lexer.{usize_max}
use Rattle.clap.specs.Words.{App, Rule, new_app, new_rule, with_rule, with_subcommand}
use Rattle.clap.specs.declared.builder.value_parser.ValueParser.TheVariants as parser
use Rattle.clap.specs.Simple.{on_top}

-- FILE.., at least one.
abbrev pub files : Rule
files = record (new_rule (codes "FILE")) {
  range = Some (record { start_inclusive = 1; end_inclusive = usize_max });
  required = true;
}

-- --workers N, from 1 to 64: 1 where it isn't given.
abbrev pub workers : Rule
workers = record (new_rule (codes "N")) {
  long = Some (codes "workers");
  defaults = codes "1" ∷ [];
  parser = Some (parser.Signed (pos 1) (pos 64));
}

-- --add-column FIELD
abbrev pub column : Rule
column = record (new_rule (codes "FIELD")) { long = Some (codes "add-column") }

-- NAME --workers N --add-column FIELD FILE..
abbrev pub over_files : List ℕ → App
over_files name = with_rule (with_rule (with_rule (new_app name) files) workers) column

-- -n ROWS: 10 where it isn't given.
abbrev pub row_limit : Rule
row_limit = record (new_rule (codes "ROWS")) {
  short = Some 110;
  defaults = codes "10" ∷ [];
  parser = Some (parser.Unsigned 0 18446744073709551615);
}

-- head -n ROWS --workers N --add-column FIELD FILE..
abbrev pub with_head : App
with_head = with_rule (over_files (codes "head")) row_limit

-- --query QUERY
abbrev pub query : Rule
query = record (new_rule (codes "QUERY")) { long = Some (codes "query") }

-- --query-file FILE
abbrev pub query_file : Rule
query_file = record (new_rule (codes "QUERY_FILE")) { long = Some (codes "query-file"); value_names = 1 }

-- --output FORMAT: lines where it isn't given.
abbrev pub output : Rule
output = record (new_rule (codes "FORMAT")) {
  long = Some (codes "output");
  defaults = codes "lines" ∷ [];
}

-- query --query QUERY --query-file FILE --output FORMAT --workers N --add-column FIELD FILE..
abbrev pub with_query : App
with_query = with_rule (with_rule (with_rule (over_files (codes "query")) query) query_file) output

-- The program alone, with its version. Without a word it shows its help, and one of its commands has to be there.
abbrev pub alone : App
alone = on_top (λ top. record top { arg_required_else_help = true; subcommand_required = true; has_version = true }) (new_app (codes "arrowtab"))

-- The program with a command over files of this name behind those that it has.
abbrev pub with_command : App → List ℕ → App
with_command app name = with_subcommand app (over_files name).top

-- stats FILE.., schema FILE.., validate FILE.., head -n ROWS FILE.., export FILE.., and query --query QUERY --query-file FILE --output FORMAT FILE.., each with --workers N and --add-column FIELD.
abbrev pub arrowtab : App
arrowtab =
    let looking = with_command (with_command (with_command alone (codes "stats")) (codes "schema")) (codes "validate") in
    with_subcommand (with_command (with_subcommand looking with_head.top) (codes "export")) with_query.top
