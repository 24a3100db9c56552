-- The law of files: reading and writing belong together. Every list of bytes is the file of just one list of orders, or
-- it is at fault in just one way at just one place, and the reader tells which.
use Rattle.std.specs.Prelude.{◌≡◌, ℕ, ◌<◌, ◌≤◌, ◌⊎◌, List, ◌∷◌, ◌++◌, length, Ok, Err, ◌≢◌}
use Rattle.rules.specs.declared.refusal.Refusal.TheVariants.{FileTooLong, UnknownKind, BodyCutShort, AnswerListTooShort}
use Rattle.rules.specs.Orders.{Order}
use Rattle.orders.specs.declared.fault.FileFault.{FileFault}
use Rattle.orders.specs.Reading.{most_bytes, fault, reading}
use Rattle.orders.specs.Runs.{admitted}
use Rattle.orders.specs.Files.{kind_of, written, file_of, Fits, AllFit, FileOf, Bytes}

-- WHAT CAN BE WRONG WITH BYTES

-- There are too many of them.
abbrev pub TooLong : (bytes : List ℕ) → FileFault → Type 0
TooLong bytes f = (most_bytes < length bytes) × (f ≡ fault FileTooLong most_bytes)

-- Or they begin with a byte with which no order begins.
pub record NoOrder (bytes : List ℕ) : Type 0 where
  pub byte : ℕ
  pub more : List ℕ
  pub begin : bytes ≡ byte ∷ more
  pub no_kind : (order : Order) → (kind_of order).number ≢ byte

-- Or they are the beginning of an order of which the end is missing.
pub record HalfOrder (bytes : List ℕ) : Type 0 where
  pub order : Order
  pub fits : Fits order
  pub missing : List ℕ
  pub begin : written order ≡ bytes ++ missing
  pub begun : 0 < length bytes
  pub unfinished : 0 < length missing

-- The fault of a file that is not too long: up to its place orders are written down, and the bytes from there on are at
-- fault in one of these two ways.
pub record Broken (bytes : List ℕ) (f : FileFault) : Type 0 where
  pub short : length bytes ≤ most_bytes
  pub orders : List Order
  pub fit : AllFit orders
  pub rest : List ℕ
  pub before : bytes ≡ file_of orders ++ rest
  pub place : f.place ≡ length (file_of orders)
  pub why : (NoOrder rest × (f.refusal ≡ UnknownKind)) ⊎ (HalfOrder rest × (f.refusal ≡ BodyCutShort))

-- THE LAW

pub record LawOfFiles : Type 0 where
  -- Every list of orders whose numbers fit their fields has a file that reads as exactly that list, unless it is too long.
  pub read_back : (orders : List Order) → AllFit orders → length (file_of orders) ≤ most_bytes → reading (file_of orders) ≡ Ok orders
  -- What is read without a fault is the file of the orders that it is read as.
  pub nothing_else : (bytes : List ℕ) → Bytes bytes → (orders : List Order) → reading bytes ≡ Ok orders → FileOf bytes orders
  -- So no file is the file of two lists of orders, and no list of orders has two files.
  pub one_meaning : (bytes : List ℕ) (orders orders' : List Order) → FileOf bytes orders → FileOf bytes orders' → orders ≡ orders'
  pub one_file : (bytes bytes' : List ℕ) → Bytes bytes → Bytes bytes' → (orders : List Order) → reading bytes ≡ Ok orders → reading bytes' ≡ Ok orders → bytes ≡ bytes'
  -- A fault that is told is there, and one that is there is told.
  pub fault_is_there : (bytes : List ℕ) → Bytes bytes → (f : FileFault) → reading bytes ≡ Err f → TooLong bytes f ⊎ Broken bytes f
  pub fault_is_told : (bytes : List ℕ) (f : FileFault) → TooLong bytes f ⊎ Broken bytes f → reading bytes ≡ Err f
  -- And so for a run with an answer list of some places: the orders of a file are what is performed, if there is a place
  -- for each; a fault of the file comes before a want of places.
  pub performed : (bytes : List ℕ) (orders : List Order) (places : ℕ) → FileOf bytes orders → length orders ≤ places → admitted bytes places ≡ Ok orders
  pub want_of_places : (bytes : List ℕ) (orders : List Order) (places : ℕ) → FileOf bytes orders → places < length orders → admitted bytes places ≡ Err (fault AnswerListTooShort (length orders))
  pub refused : (bytes : List ℕ) (f : FileFault) (places : ℕ) → TooLong bytes f ⊎ Broken bytes f → admitted bytes places ≡ Err f
