use Rattle.json_read.proofs.schema.share_schema.Goals as goal

pub unreachable-requires : goal.unreachable-requires
unreachable-requires c = cc (c.requires, c.in-Err.ensures.err)
