-- The assets by name.
use Rattle.std.specs.Prelude.{ℕ}
use Rattle.rules.specs.declared.asset.Asset.{Asset}
use Rattle.rules.specs.declared.asset.Asset.TheVariants.{Yen, ForeignCurrency, Bonds, Shares}

-- the number by which orders, boxes and prices know an asset
abbrev pub asset_number : Asset → ℕ
asset_number Yen = 0
asset_number ForeignCurrency = 1
asset_number Bonds = 2
asset_number Shares = 3
