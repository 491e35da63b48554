-- What the parts of an array are: the first fault of it, its child and its dictionary, and what it shows.
use Rattle.std.specs.Prelude.{ℕ, List, [], ◌∷◌, map, Option, Some, None, option_map}
use Rattle.types.specs.Prelude.{Kind, dict, first, kind_of}
use Rattle.layout.specs.Item.{Item}
use Rattle.layout.specs.Layout.{Buffers, column, codes, validity_of}
use Rattle.layout.specs.Fault.{Inner, own_fault}
use Rattle.layout.specs.Seen.{Seen, Entries, no_entries}
use Rattle.layout.specs.declared.fault.LayoutFault.{LayoutFault}
use Rattle.layout.specs.declared.raw.RawArray.{RawArray, RawArray-F, fold-RawArray}

pub record Reading : Type 0 where
  pub kind : Kind
  pub length : ℕ
  pub fault : Option LayoutFault
  pub seen : Seen

abbrev pub inner_of : Reading → Inner
inner_of r = record { kind = r.kind; length = r.length }

-- The items of the one child, and the entries of the dictionary.
abbrev pub child_items : List Reading → List Item
child_items [] = []
child_items (c ∷ cs) = c.seen.items

abbrev pub entries_of : Option Reading → Entries
entries_of None = no_entries
entries_of (Some d) = record { validity = d.seen.validity; items = d.seen.items }

-- What an array shows.
abbrev pub seen_of : Kind → ℕ → Buffers → List Item → Entries → Seen
seen_of dict n buffers child entries = record {
  kind = dict;
  validity = validity_of n buffers;
  items = column dict n buffers child entries.items;
  codes = codes n buffers;
  entries = entries;
}
seen_of k n buffers child entries = record {
  kind = k;
  validity = validity_of n buffers;
  items = column k n buffers child [];
  codes = [];
  entries = no_entries;
}

abbrev pub child_fault : List Reading → Option LayoutFault
child_fault [] = None
child_fault (c ∷ cs) = c.fault

abbrev pub dictionary_fault : Option Reading → Option LayoutFault
dictionary_fault None = None
dictionary_fault (Some d) = d.fault

-- An array of these parts, its child and dictionary read already: its own fault comes before theirs.
unfoldable pub read_parts : Kind → ℕ → Option ℕ → Buffers → List Reading → Option Reading → Reading
read_parts k n stated buffers children dictionary = record {
  kind = k;
  length = n;
  fault = first (own_fault k n stated buffers (map inner_of children) (option_map inner_of dictionary) ∷ child_fault children ∷ dictionary_fault dictionary ∷ []);
  seen = seen_of k n buffers (child_items children) (entries_of dictionary);
}

abbrev pub reading_step : RawArray-F Reading → Reading
reading_step r = read_parts (kind_of r.ty) r.length r.null_count r.buffers.items r.children.items (option_map (λ b. b.value) r.dictionary)

abbrev pub reading : RawArray → Reading
reading = fold-RawArray Reading reading_step

-- The first fault that stands for the array, else for its child, else for its dictionary; none where it is lawful.
abbrev pub fault : RawArray → Option LayoutFault
fault raw = (reading raw).fault

-- An item for each slot.
abbrev pub meaning : RawArray → List Item
meaning raw = (reading raw).seen.items
