-- A file worked out by hand, byte by byte, to hold the definitions against: account 8 is opened under participant 0;
-- asset 1 is marked at price 15,025 with haircut 50; 99,999,999,999 units of it are deposited in pocket 0 of account 8;
-- participant 3 is suspended. Its orders begin at places 0, 3, 11 and 23, and it has 25 bytes.
use Rattle.std.specs.Prelude.{◌≡◌, ℕ, List, [], ◌∷◌, ◌++◌, take, Ok, Err}
use Rattle.rules.specs.declared.refusal.Refusal.TheVariants.{UnknownKind, BodyCutShort}
use Rattle.rules.specs.Orders.{Order, opening, mark, deposit, suspend}
use Rattle.orders.specs.Reading.{fault, reading}
use Rattle.orders.specs.Files.{file_of}

abbrev pub worked_bytes : List ℕ
worked_bytes =
    1 ∷ 8 ∷ 0 ∷ 2 ∷ 1 ∷ 0 ∷ 0 ∷ 58 ∷ 177 ∷ 0 ∷ 50 ∷ 5 ∷ 8 ∷ 0 ∷ 1 ∷ 0 ∷ 0 ∷ 0 ∷ 23 ∷ 72 ∷ 118 ∷ 231 ∷ 255 ∷ 7 ∷ 3 ∷ []

abbrev pub worked_orders : List Order
worked_orders = opening 8 0 ∷ mark 1 15025 50 ∷ deposit 8 0 1 99999999999 ∷ suspend 3 ∷ []

pub record WorkedFile : Type 0 where
  pub is_read : reading worked_bytes ≡ Ok worked_orders
  pub is_written : file_of worked_orders ≡ worked_bytes
  -- without its last byte, and with the line end of a text file after it, which is byte 10
  pub cut_short : reading (take 24 worked_bytes) ≡ Err (fault BodyCutShort 23)
  pub line_end : reading (worked_bytes ++ 10 ∷ []) ≡ Err (fault UnknownKind 25)
  -- no bytes at all are the file of no orders
  pub empty : reading [] ≡ Ok []
