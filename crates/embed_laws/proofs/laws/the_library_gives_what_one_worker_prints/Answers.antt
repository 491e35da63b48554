use Rattle.embed_laws.proofs.AloneLemmas.{export_alone, first_alone, query_alone, query_first_alone, query_stops_alone, schema_alone, stats_alone, stops_alone, validate_alone}
use Rattle.embed_laws.proofs.laws.the_library_gives_what_one_worker_prints.Goals as goal

pub returns : goal.returns
returns c = record {
  stats = stats_alone;
  schema = schema_alone;
  validate = validate_alone;
  export = export_alone;
  query = query_alone;
  err = stops_alone;
  query_err = query_stops_alone;
  first = first_alone;
  query_first = query_first_alone;
}
