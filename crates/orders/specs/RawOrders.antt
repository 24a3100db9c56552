-- What the reader works with: the kinds by their names, and an order with its body still in bytes, and what these mean.
use Rattle.std.specs.Prelude.{◌≡◌, ℕ, List, length, Some, None, Ok, Err, Option, Result}
use Rattle.rules.specs.declared.refusal.Refusal.{Refusal}
use Rattle.rules.specs.declared.refusal.Refusal.TheVariants.{UnknownKind}
use Rattle.rules.specs.Orders.{Order}
use Rattle.orders.specs.declared.raw_order.RawOrder.{RawOrder}
use Rattle.orders.specs.declared.raw_order.RawOrder.TheVariants.{Open, Mark, Position, Declare, Deposit, Withdraw, Suspend, Settle, Seize}
use Rattle.orders.specs.declared.order_kind.OrderKind.{OrderKind}
use Rattle.orders.specs.declared.order_kind.OrderKind.TheVariants.{Open as OpenKind, Mark as MarkKind, Position as PositionKind, Declare as DeclareKind, Deposit as DepositKind, Withdraw as WithdrawKind, Suspend as SuspendKind, Settle as SettleKind, Seize as SeizeKind}
use Rattle.orders.specs.Kinds.{Kind, size, order_in, open_kind, mark_kind, position_kind, declare_kind, deposit_kind, withdraw_kind, suspend_kind, settle_kind, seize_kind}

-- its kind, and the bytes of its body
abbrev pub kind_read : RawOrder → Kind
kind_read (Open body) = open_kind
kind_read (Mark body) = mark_kind
kind_read (Position body) = position_kind
kind_read (Declare body) = declare_kind
kind_read (Deposit body) = deposit_kind
kind_read (Withdraw body) = withdraw_kind
kind_read (Suspend body) = suspend_kind
kind_read (Settle body) = settle_kind
kind_read (Seize body) = seize_kind

abbrev pub body_read : RawOrder → List ℕ
body_read (Open body) = body.now
body_read (Mark body) = body.now
body_read (Position body) = body.now
body_read (Declare body) = body.now
body_read (Deposit body) = body.now
body_read (Withdraw body) = body.now
body_read (Suspend body) = body.now
body_read (Settle body) = body.now
body_read (Seize body) = body.now

abbrev pub meant : RawOrder → Order
meant order = order_in (kind_read order) (body_read order)

-- its body has all of its bytes
abbrev pub Whole : RawOrder → Type 0
Whole order = length (body_read order) ≡ size (kind_read order)

-- THE KINDS AS THE CODE NAMES THEM

-- the entry of the table for a name
abbrev pub kind_named : OrderKind → Kind
kind_named OpenKind = open_kind
kind_named MarkKind = mark_kind
kind_named PositionKind = position_kind
kind_named DeclareKind = declare_kind
kind_named DepositKind = deposit_kind
kind_named WithdrawKind = withdraw_kind
kind_named SuspendKind = suspend_kind
kind_named SettleKind = settle_kind
kind_named SeizeKind = seize_kind

-- what a kind byte stands for, by its name, and by the table
abbrev pub named : Result OrderKind Refusal → Result Kind Refusal
named (Ok name) = Ok (kind_named name)
named (Err refusal) = Err refusal

abbrev pub known : Option Kind → Result Kind Refusal
known (Some kind) = Ok kind
known None = Err UnknownKind
