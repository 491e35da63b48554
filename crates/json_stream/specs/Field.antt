-- A field, and how its column is encoded, as they are lent.
use Rattle.std.specs.Prelude.{Option, option_map}
use Rattle.arrays.specs.Prelude.{Kind, kind_of, out-Field}
use Rattle.json_read.specs.Prelude.{Coding, coding_of}
use Rattle.json_stream.specs.declared.field.EncodedField.{EncodedField}

abbrev pub kind_in : EncodedField → Kind
kind_in f = kind_of (out-Field f.field.now).ty

abbrev pub coding_in : EncodedField → Option Coding
coding_in f = option_map coding_of f.coding.now
