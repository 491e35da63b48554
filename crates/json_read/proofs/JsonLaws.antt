-- Where a fault stands, nothing is read.
use Rattle.std.proofs.Common.{◌≡◌, ◌∙◌, ℕ, ◌<◌, ℤ, true, List, length, Option, Some, None, option_and_then, refl, sym, ap, subst, arith}
use Rattle.std.proofs.lemmas.Option.{slice_get_within}
use Rattle.arrays.specs.Prelude.{FieldShape, Item, Kind, OffsetWidth, kind_of_field, slot_at}
use Rattle.arrays.specs.Kind as kind
use Rattle.json_base.specs.Data as data'
use Rattle.json_base.specs.Prelude.{Data, EachFault, FileData, Items, ListFault, ReadsEach, Table, Unlike, as_array, as_object, count_of, flag_of, item, items_len, member_of, no_items}
use Rattle.json_base.specs.declared.path.Member.TheVariants as member
use Rattle.json_base.specs.declared.path.Step.{Step}
use Rattle.json_base.specs.declared.fault.JsonFaultKind.{JsonFaultKind}
use Rattle.json_base.specs.JsonMember as at
use Rattle.json_read.specs.Prelude.{BatchFault, BytesFault, ChildFault, CodedFault, Coding, ColumnsFault, FileFault, HasFlags, HasListMembers, IsListColumn, KindFault, ListsFault, NoLists, NoOffset, NotLawful, OffsetsFault, Reads, ReadsBatch, ReadsColumn, ReadsColumns, ReadsFile, ReadsLists, ReadsTop, SchemaFault, SpellsOffset, are_enough, bad_batch, bad_batches, bad_catalog, bad_child, bad_child_column, bad_child_count, bad_children, bad_column, bad_columns, bad_file, bad_list, bad_list_count, bad_list_flags, bad_lists, bad_offset, bad_offsets, bad_rows, bad_schema, flagged_at, indices, list_slot, lists_fault, no_batch_object, no_child_object, no_file_object, no_flag_at, no_flags_of_lists, no_json, no_list_object, no_lists, no_offset, no_offsets, not_enough, not_lawful, numbers, offset_bytes, texts, truths}
use Rattle.json_read.proofs.JsonLists.{column_count}
use Rattle.json_read.proofs.JsonFiles.{catalog_of}
use Rattle.json_base.proofs.JsonItems.{get_item_some}
use Rattle.json_read.proofs.ColumnLaws.{count_law, list_law, flags_law, plain_law, same_plain}
use Rattle.json_read.proofs.CatalogLaws.{codes_law, catalog_law, same_catalog}
use Rattle.json_base.proofs.MemberLaws.{inner, no_object, not_unlike, no_member, under_law, get_item-within, slice_get_some, each_law, same_lists, same_each}
use Rattle.json_read.proofs.SchemaLaws.{schema_law, same_schema}

-- ---- columns of lists

offsets_law : (n : ℕ) (d : Data) (offsets : Items) (k : JsonFaultKind) (p : List Step) → option_and_then as_array (member_of member.Offset d) ≡ Some offsets → are_enough n (items_len offsets) ≡ true
    → OffsetsFault n d k p → ⊥
offsets_law n d offsets k p h enough (no_offsets k' p' f) = no_member as_array member.Offset d offsets _ _ h f
offsets_law n d offsets k p h enough (not_enough ds found few) =
    let same : ds ≡ offsets = cc (found, h) in
    cc (ap (λ xs. are_enough n (items_len xs)) same, few, enough)

no_lists_law : (n : ℕ) (d : Data) (flags : Option Items) (offsets : Items) (child : Data) (k : JsonFaultKind) (p : List Step) → HasListMembers n d flags offsets child → NoLists n d k p → ⊥
no_lists_law n d flags offsets child k p h (no_list_object k' p' u) = no_object count_of member.Count d n h.count (not_unlike as_object d _ _ u)
no_lists_law n d flags offsets child k p h (bad_list_count k' p' f) = count_law n d _ _ h.count f
no_lists_law n d flags offsets child k p h (bad_list_flags k' p' f) = flags_law n d flags _ _ h.validity h.flagged f
no_lists_law n d flags offsets child k p h (bad_offsets k' p' f) = offsets_law n d offsets _ _ h.listed h.enough f
no_lists_law n d flags offsets child k p h (bad_children k' p' f) =
    let i = inner as_array (member_of member.Children d) (data'.item child data'.no_items) h.children in
    under_law member.Children (ListFault 1) d i.0 _ _ i.1 (λ k p w. list_law 1 i.0 (data'.item child data'.no_items) k p i.2 refl w) f

-- a slot that is there has a flag
no_flags_law : (w : OffsetWidth) (fs : Items) (n : ℕ) (offsets : List ℕ) (below items : List Item) (k : JsonFaultKind) (p : List Step) → HasFlags n (Some fs) → ReadsLists w (Some fs) offsets below n items
    → EachFault (Unlike flag_of) fs k p → ⊥
no_flags_law w fs n offsets below items k p many slots (at.item i e k' p' found u) =
    let within : i < n = omega (arith, get_item-within fs i e found, many) in
    let x = slice_get_some items i (omega (arith, slots.len)) in
    let none : flagged_at (Some fs) i ≡ None = ap (option_and_then flag_of) found ∙ not_unlike flag_of e _ _ u in
    let slot = ap (λ o. list_slot o (slot_at w offsets below i)) none in
    cc (slots.each i within, slot, x.1)

no_offset_law : (w : OffsetWidth) (d : Data) (z : ℤ) (k : JsonFaultKind) (p : List Step) → SpellsOffset w d z → NoOffset w d k p → ⊥
no_offset_law w d z k p h (no_offset none) = cc (none, h)

child_law : (R : ℕ → Data → List Item → Type 0) (W : ℕ → Data → JsonFaultKind → List Step → Type 0) (m : ℕ) (d : Data) (items : List Item) (k : JsonFaultKind) (p : List Step)
    → option_and_then count_of (member_of member.Count d) ≡ Some m → ((k : JsonFaultKind) (p : List Step) → W m d k p → ⊥) → ChildFault W d k p → ⊥
child_law R W m d items k p count law (no_child_object k' p' u) = no_object count_of member.Count d m count (not_unlike as_object d _ _ u)
child_law R W m d items k p count law (bad_child_count k' p' f) = no_member count_of member.Count d m _ _ count f
child_law R W m d items k p count law (bad_child_column o k' p' found w) =
    let same : o ≡ m = cc (found, count) in
    law k' p' (subst (λ x. W x d k' p') same w)

not_lawful_law : (w : OffsetWidth) (c : Kind) (n : ℕ) (offsets : List ℕ) (m : ℕ) (k : JsonFaultKind) (p : List Step) → lists_fault w c n offsets m ≡ None → NotLawful w c n offsets m k p → ⊥
not_lawful_law w c n offsets m k p lawful (not_lawful fault stands) = cc (lawful, stands)

-- what an object's flags, offsets and child are is decided by the object
same_flags : (n m : ℕ) (d : Data) (flags fs : Option Items) (offsets os : Items) (child e : Data) → HasListMembers n d flags offsets child → HasListMembers m d fs os e → fs ≡ flags
same_flags n m d flags fs offsets os child e h g = cc (h.validity, g.validity)

same_offsets : (n m : ℕ) (d : Data) (flags fs : Option Items) (offsets os : Items) (child e : Data) → HasListMembers n d flags offsets child → HasListMembers m d fs os e → os ≡ offsets
same_offsets n m d flags fs offsets os child e h g = cc (h.listed, g.listed)

same_child : (n m : ℕ) (d : Data) (flags fs : Option Items) (offsets os : Items) (child e : Data) → HasListMembers n d flags offsets child → HasListMembers m d fs os e → e ≡ child
same_child n m d flags fs offsets os child e h g = cc (h.children, g.children)

same_number : (w : OffsetWidth) (d : Data) (a b : ℤ) → SpellsOffset w d a → SpellsOffset w d b → a ≡ b
same_number w d a b h g = cc

same_numbers : (w : OffsetWidth) (offsets os : Items) (a b : List ℤ) → os ≡ offsets → ReadsEach (SpellsOffset w) offsets a → ReadsEach (SpellsOffset w) os b → b ≡ a
same_numbers w offsets os a b same h g = same_each (SpellsOffset w) offsets b a (same_number w) (subst (λ o. ReadsEach (SpellsOffset w) o b) same g) h

lists_law : (R : ℕ → Data → List Item → Type 0) (W : ℕ → Data → JsonFaultKind → List Step → Type 0) (w : OffsetWidth) (c : Kind) (n : ℕ) (d : Data) (items : List Item) (k : JsonFaultKind) (p : List Step)
    → ((m : ℕ) (e : Data) (xs : List Item) → R m e xs → option_and_then count_of (member_of member.Count e) ≡ Some m)
    → ((m : ℕ) (e : Data) (xs : List Item) (k : JsonFaultKind) (p : List Step) → R m e xs → W m e k p → ⊥) → IsListColumn R w c n d items → ListsFault W w c n d k p → ⊥
lists_law R W w c n d items k p count law h (no_lists k' p' f) = no_lists_law n d h.flags h.offsets h.child _ _ h.given f
lists_law R W w c n d items k p count law h (no_flags_of_lists flags offsets child k' p' given (no_flag_at fs k'' p'' is f)) =
    let same : h.flags ≡ Some fs = sym (same_flags n n d h.flags flags h.offsets offsets h.child child h.given given) ∙ is in
    no_flags_law w fs n (offset_bytes w h.numbers) h.below items _ _ (subst (HasFlags n) same h.given.flagged) (subst (λ o. ReadsLists w o (offset_bytes w h.numbers) h.below n items) same h.slots) f
lists_law R W w c n d items k p count law h (bad_offset flags offsets child k' p' given f) =
    let same = same_offsets n n d h.flags flags h.offsets offsets h.child child h.given given in
    each_law (SpellsOffset w) (NoOffset w) h.offsets h.numbers k' p' h.spelled (no_offset_law w) (subst (λ o. EachFault (NoOffset w) o k' p') same f)
lists_law R W w c n d items k p count law h (bad_child flags offsets child k' p' given f) =
    let same = same_child n n d h.flags flags h.offsets offsets h.child child h.given given in
    child_law R W h.m h.child h.below k' p' (count h.m h.child h.below h.inner) (λ k p f. law h.m h.child h.below k p h.inner f) (subst (λ e. ChildFault W e k' p') same f)
lists_law R W w c n d items k p count law h (bad_lists flags offsets child numbers m k' p' given spelled found f) =
    let child_is = same_child n n d h.flags flags h.offsets offsets h.child child h.given given in
    let numbers_are = same_numbers w h.offsets offsets h.numbers numbers (same_offsets n n d h.flags flags h.offsets offsets h.child child h.given given) h.spelled spelled in
    let m_is : m ≡ h.m = cc (ap (λ e. option_and_then count_of (member_of member.Count e)) child_is, found, count h.m h.child h.below h.inner) in
    not_lawful_law w c n (offset_bytes w h.numbers) h.m k' p' h.lawful (subst (λ x. NotLawful w c n (offset_bytes w h.numbers) x k' p') m_is (subst (λ x. NotLawful w c n (offset_bytes w x) m k' p') numbers_are f))

column_law : (c : Kind) (n : ℕ) (d : Data) (items : List Item) (k : JsonFaultKind) (p : List Step) → ReadsColumn c n d items → KindFault c n d k p → ⊥
column_law (kind.int t) n d items k p h f = plain_law (numbers t) n d items k p h f
column_law kind.boolean n d items k p h f = plain_law truths n d items k p h f
column_law (kind.texts w) n d items k p h f = plain_law (texts w) n d items k p h f
column_law (kind.lists w c) n d items k p h f = lists_law (ReadsColumn c) (KindFault c) w c n d items k p (column_count c) (column_law c) h f
column_law kind.dict n d items k p h f = absurd h

-- ---- batches and files

coded_law : (a : Kind) (c : Option Coding) (n : ℕ) (d : Data) (items : List Item) (k : JsonFaultKind) (p : List Step) → ReadsTop a c n d items → CodedFault a c n d k p → ⊥
coded_law a None n d items k p h f = column_law a n d items k p h f
coded_law a (Some c) n d items k p h f = codes_law c.index c.texts n d items k p h f

columns_law : (fields : List FieldShape) (catalog : List (Option Coding)) (d : Data) (t : Table) (k : JsonFaultKind) (p : List Step) → (h : ReadsBatch fields catalog d t)
    → ColumnsFault fields catalog t.rows h.found k p → ⊥
columns_law fields catalog d t k p h (bad_column i f c e k' p' at_field at_coding found w) =
    let x = slice_get_some t.columns i (omega (arith, get_item-within h.found i e found, h.whole, h.columns.len)) in
    coded_law (kind_of_field f) c t.rows e x.0 _ _ (h.columns.each i f c e x.0 at_field at_coding found x.1) w

batch_law : (fields : List FieldShape) (catalog : List (Option Coding)) (d : Data) (t : Table) (k : JsonFaultKind) (p : List Step) → ReadsBatch fields catalog d t → BatchFault fields catalog d k p → ⊥
batch_law fields catalog d t k p h (no_batch_object k' p' u) = no_object count_of member.Count d t.rows h.count (not_unlike as_object d _ _ u)
batch_law fields catalog d t k p h (bad_rows k' p' f) = no_member count_of member.Count d t.rows _ _ h.count f
batch_law fields catalog d t k p h (bad_list k' p' f) =
    let i = inner as_array (member_of member.Columns d) h.found h.listed in
    under_law member.Columns (ListFault (length fields)) d i.0 _ _ i.1 (λ k p w. list_law (length fields) i.0 h.found k p i.2 h.whole w) f
batch_law fields catalog d t k p h (bad_columns rows ds k' p' at_rows at_list f) =
    let a : rows ≡ t.rows = cc (at_rows, h.count) in
    let b : ds ≡ h.found = cc (at_list, h.listed) in
    columns_law fields catalog d t k' p' h (subst (λ x. ColumnsFault fields catalog x h.found k' p') a (subst (λ y. ColumnsFault fields catalog rows y k' p') b f))

file_law : (d : Data) (f : FileData) (k : JsonFaultKind) (p : List Step) → ReadsFile d f → FileFault d k p → ⊥
file_law d f k p h (no_file_object k' p' u) = no_object as_array member.Batches d h.batches h.at_batches (not_unlike as_object d _ _ u)
file_law d f k p h (bad_schema k' p' w) = under_law member.Schema SchemaFault d h.schema.schema _ _ h.schema.at_schema (λ k p w. schema_law h.schema.schema f.fields k p h.schema.reads w) w
file_law d f k p h (bad_batches k' p' w) = no_member as_array member.Batches d h.batches _ _ h.at_batches w
file_law d f k p h (bad_catalog k' p' w) = catalog_law d h.catalog _ _ h.coded w
file_law d f k p h (bad_batch fields catalog ds k' p' schema coded found w) =
    let a : fields ≡ f.fields = same_schema d fields f.fields schema h.schema in
    let b : ds ≡ h.batches = cc (found, h.at_batches) in
    let c : catalog ≡ h.catalog = same_catalog d catalog h.catalog coded h.coded in
    each_law (ReadsBatch f.fields h.catalog) (BatchFault f.fields h.catalog) h.batches f.tables k' p' h.tables (λ e t k p r w. batch_law f.fields h.catalog e t k p r w)
    (subst (λ x. EachFault (BatchFault x h.catalog) h.batches k' p') a
    (subst (λ z. EachFault (BatchFault fields z) h.batches k' p') c (subst (λ y. EachFault (BatchFault fields catalog) y k' p') b w)))

pub bytes_law : (bytes : List ℕ) (f : FileData) (k : JsonFaultKind) (p : List Step) → Reads bytes f → BytesFault bytes k p → ⊥
bytes_law bytes f k p h (no_json none) =
    let e = none h.text in
    cc (e, h.parsed)
bytes_law bytes f k p h (bad_file d k' p' text parsed w) =
    let same : d ≡ h.document = cc (parsed, h.parsed) in
    file_law h.document f k' p' h.file (subst (λ x. FileFault x k' p') same w)

-- ---- two readings of one file are one

same_list_column : (R : ℕ → Data → List Item → Type 0) (w : OffsetWidth) (c : Kind) (n : ℕ) (d : Data) (xs ys : List Item)
    → ((m : ℕ) (e : Data) (zs : List Item) → R m e zs → option_and_then count_of (member_of member.Count e) ≡ Some m)
    → ((m : ℕ) (e : Data) (vs ws : List Item) → R m e vs → R m e ws → vs ≡ ws) → IsListColumn R w c n d xs → IsListColumn R w c n d ys → xs ≡ ys
same_list_column R w c n d xs ys count law h g =
    let flags = same_flags n n d g.flags h.flags g.offsets h.offsets g.child h.child g.given h.given in
    let child = same_child n n d g.flags h.flags g.offsets h.offsets g.child h.child g.given h.given in
    let numbers = same_numbers w g.offsets h.offsets g.numbers h.numbers (same_offsets n n d g.flags h.flags g.offsets h.offsets g.child h.child g.given h.given) g.spelled h.spelled in
    let m : h.m ≡ g.m = cc (ap (λ e. option_and_then count_of (member_of member.Count e)) child, count h.m h.child h.below h.inner, count g.m g.child g.below g.inner) in
    let below : h.below ≡ g.below = law g.m g.child h.below g.below (subst (λ e. R g.m e h.below) child (subst (λ l. R l h.child h.below) m h.inner)) g.inner in
    same_lists xs ys (h.slots.len ∙ sym g.slots.len)
    (λ i x y at at'.
    let within : i < n = omega (arith, slice_get_within xs i x at, h.slots.len) in
    let slot : list_slot (flagged_at h.flags i) (slot_at w (offset_bytes w h.numbers) h.below i) ≡ list_slot (flagged_at g.flags i) (slot_at w (offset_bytes w g.numbers) g.below i) =
    ap (λ fs. list_slot (flagged_at fs i) (slot_at w (offset_bytes w h.numbers) h.below i)) flags
    ∙ (ap (λ ns. list_slot (flagged_at g.flags i) (slot_at w (offset_bytes w ns) h.below i)) numbers ∙ ap (λ zs. list_slot (flagged_at g.flags i) (slot_at w (offset_bytes w g.numbers) zs i)) below) in
    let e : Some x ≡ Some y = sym at ∙ (h.slots.each i within ∙ (slot ∙ (sym (g.slots.each i within) ∙ at'))) in
    cc)

same_column : (k : Kind) (n : ℕ) (d : Data) (xs ys : List Item) → ReadsColumn k n d xs → ReadsColumn k n d ys → xs ≡ ys
same_column (kind.int t) n d xs ys h g = same_plain (numbers t) n d xs ys h g
same_column kind.boolean n d xs ys h g = same_plain truths n d xs ys h g
same_column (kind.texts w) n d xs ys h g = same_plain (texts w) n d xs ys h g
same_column (kind.lists w k) n d xs ys h g = same_list_column (ReadsColumn k) w k n d xs ys (column_count k) (same_column k) h g
same_column kind.dict n d xs ys h g = absurd h

same_coded : (a : Kind) (c : Option Coding) (n : ℕ) (d : Data) (xs ys : List Item) → ReadsTop a c n d xs → ReadsTop a c n d ys → xs ≡ ys
same_coded a None n d xs ys h g = same_column a n d xs ys h g
same_coded a (Some c) n d xs ys h g = same_plain (indices c.index c.texts) n d xs ys h g

same_columns : (fields : List FieldShape) (catalog : List (Option Coding)) (n : ℕ) (ds : Items) (xs ys : List (List Item)) → items_len ds ≡ length fields → length catalog ≡ length fields
    → ReadsColumns fields catalog n ds (length fields) xs → ReadsColumns fields catalog n ds (length fields) ys → xs ≡ ys
same_columns fields catalog n ds xs ys whole many h g =
    same_lists xs ys (h.len ∙ sym g.len)
    (λ i x y at at'.
    let within : i < length fields = omega (arith, slice_get_within xs i x at, h.len) in
    let f = slice_get_some fields i within in
    let c = slice_get_some catalog i (omega arith) in
    let d = get_item_some ds i (omega arith) in
    same_coded (kind_of_field f.0) c.0 n d.0 x y (h.each i f.0 c.0 d.0 x f.1 c.1 d.1 at) (g.each i f.0 c.0 d.0 y f.1 c.1 d.1 at'))

table_by : (t u : Table) → t.rows ≡ u.rows → t.columns ≡ u.columns → t ≡ u
table_by t u rows columns = ap (λ n. record { rows = n; columns = t.columns }) rows ∙ ap (λ xs. record { rows = u.rows; columns = xs }) columns

same_table : (fields : List FieldShape) (catalog : List (Option Coding)) (d : Data) (t u : Table) → length catalog ≡ length fields → ReadsBatch fields catalog d t → ReadsBatch fields catalog d u → t ≡ u
same_table fields catalog d t u many h g =
    let rows : t.rows ≡ u.rows = cc (h.count, g.count) in
    let found : h.found ≡ g.found = cc (h.listed, g.listed) in
    let read : ReadsColumns fields catalog u.rows g.found (length fields) t.columns =
    subst (λ n. ReadsColumns fields catalog n g.found (length fields) t.columns) rows (subst (λ ds. ReadsColumns fields catalog t.rows ds (length fields) t.columns) found h.columns) in
    table_by t u rows (same_columns fields catalog u.rows g.found t.columns u.columns g.whole many read g.columns)

file_by : (f g : FileData) → f.fields ≡ g.fields → f.tables ≡ g.tables → f ≡ g
file_by f g fields tables = ap (λ fs. record { fields = fs; tables = f.tables }) fields ∙ ap (λ ts. record { fields = g.fields; tables = ts }) tables

same_file : (d : Data) (f g : FileData) → ReadsFile d f → ReadsFile d g → f ≡ g
same_file d f g h k =
    let fields : f.fields ≡ g.fields = same_schema d f.fields g.fields h.schema k.schema in
    let found : h.batches ≡ k.batches = cc (h.at_batches, k.at_batches) in
    let catalog : h.catalog ≡ k.catalog = same_catalog d h.catalog k.catalog h.coded k.coded in
    let read : ReadsEach (ReadsBatch g.fields k.catalog) k.batches f.tables =
    subst (λ fs. ReadsEach (ReadsBatch fs k.catalog) k.batches f.tables) fields
    (subst (λ b. ReadsEach (ReadsBatch f.fields b) k.batches f.tables) catalog (subst (λ ds. ReadsEach (ReadsBatch f.fields h.catalog) ds f.tables) found h.tables)) in
    let many = (catalog_of d g.fields k.catalog k.schema k.coded).len in
    file_by f g fields (same_each (ReadsBatch g.fields k.catalog) k.batches f.tables g.tables (λ e t u r r'. same_table g.fields k.catalog e t u many r r') read k.tables)

pub bytes_same : (bytes : List ℕ) (f g : FileData) → Reads bytes f → Reads bytes g → f ≡ g
bytes_same bytes f g h k =
    let same : h.document ≡ k.document = cc (h.parsed, k.parsed) in
    same_file k.document f g (subst (λ d. ReadsFile d f) same h.file) k.file
