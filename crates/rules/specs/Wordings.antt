-- The words in which a back office is told of a refusal.
use Rattle.std.specs.Prelude.{ℕ, List, codes}
use Rattle.rules.specs.declared.refusal.Refusal.{Refusal}
use Rattle.rules.specs.declared.refusal.Refusal.TheVariants.{FileTooLong, UnknownKind, BodyCutShort, AnswerListTooShort, WrongAccount, WrongParticipant, WrongPocket, WrongAsset, OutOfRange, WrongStanding, OverLimit, TooFewUnits, BelowMaintenance, BeyondEntitlement, OpenPositions}

abbrev pub wording : Refusal → List ℕ
wording FileTooLong = codes "the file has more than 65,536 bytes"
wording UnknownKind = codes "the file has an order of an unknown kind"
wording BodyCutShort = codes "the file ends inside an order"
wording AnswerListTooShort = codes "the answer list has fewer places than the file has orders"
wording WrongAccount = codes "the account does not exist, is not open, or cannot be meant here"
wording WrongParticipant = codes "the participant does not exist, or the accounts are under two of them"
wording WrongPocket = codes "the account has no such pocket, or it may not pay here"
wording WrongAsset = codes "the asset does not exist, or is yen, which is never marked"
wording OutOfRange = codes "a number is outside its limits"
wording WrongStanding = codes "the participant's standing does not allow it"
wording OverLimit = codes "the box cannot hold so many units"
wording TooFewUnits = codes "there are not so many units in the box"
wording BelowMaintenance = codes "what stays would not cover the maintenance amount"
wording BeyondEntitlement = codes "the value is not free to leave the box"
wording OpenPositions = codes "accounts of the participant have open positions"
