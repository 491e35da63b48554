-- A list in chunks, as it lies in memory.
use Rattle.std.specs.Prelude.{◌≡◌, ◌++◌, ◌<◌, ◌⊎◌, ℕ, List, All, length}
use Rattle.std.specs.List.{AllZip, flat_map}
use Rattle.std.specs.declared.alloc.Global.{Global}
use Rattle.std.specs.declared.vec.Vec.{Vec}

-- The values of full chunks and those behind them.
abbrev pub chunk_values : {T : Type 0} → List (Vec T Global) → List T → List T
chunk_values {T} full last = flat_map (λ (v : Vec T Global). v.items) full ++ last

-- Each full chunk has its number of values, fewer come behind them, and all are counted.
pub record AreChunks {T : Type 0} (full : List (Vec T Global)) (last : List T) (len : ℕ) : Type 0 where
  pub chunks : All (λ (v : Vec T Global). length v.items ≡ 128) full
  pub fewer : length last < 128
  pub count : len ≡ length (chunk_values full last)

-- Each of the second is that of the first, or a clone of it.
abbrev pub AreCopies : {T : Type 0} → (T → T → Type 0) → List T → List T → Type 0
AreCopies clones xs ys = AllZip (λ x y. (y ≡ x) ⊎ clones x y) xs ys
