-- Blocks, as plain data.
use Rattle.std.specs.Prelude.{ℕ, ◌==◌, ◌&&◌, Bool, List, refl}
use Rattle.std.specs.Coded.{Coded, code_by, coded×, coded_list, coded_ℕ}
use Rattle.sc_value.specs.Datum.{Datum}
use Rattle.sc_value.specs.DatumCode.{datum_code}
use Rattle.sc_ids.specs.declared.blocks.BlockId.{BlockId}
use Rattle.sc_ids.specs.declared.blocks.ShuffleId.{ShuffleId}

-- a name, and the rows by bucket
pub record BlockData : Type 0 where
  pub id : BlockId
  pub output : List (List Datum)

abbrev pub block_data : BlockId → List (List Datum) → BlockData
block_data id output = record { id = id; output = output }

-- two names are the same
abbrev pub same_shuffle : ShuffleId → ShuffleId → Bool
same_shuffle a b = (a.node == b.node) && (a.side == b.side)

abbrev pub same_block : BlockId → BlockId → Bool
same_block a b = same_shuffle a.shuffle b.shuffle && (a.map == b.map)

-- the code of names, outputs and blocks
abbrev pub id_code : Coded BlockId
id_code =
    code_by ((ℕ × ℕ) × ℕ) (coded× (coded× coded_ℕ coded_ℕ) coded_ℕ)
    (λ id. ((id.shuffle.node, id.shuffle.side), id.map))
    (λ p. record { shuffle = record { node = p.0.0; side = p.0.1 }; map = p.1 })
    (λ _. refl)

abbrev pub output_code : Coded (List (List Datum))
output_code = coded_list (coded_list datum_code)

abbrev pub block_code : Coded BlockData
block_code =
    code_by (BlockId × List (List Datum)) (coded× id_code output_code)
    (λ b. (b.id, b.output)) (λ p. block_data p.0 p.1) (λ _. refl)
