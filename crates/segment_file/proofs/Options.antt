-- What is said of an option by cases, made weaker.
use Rattle.std.proofs.Common.{◌≡◌, true, is_some, Option, Some, None, IfSome, Result, Ok, Err, IfOk}
use Rattle.std.specs.Prelude.{IfNone, OnOk}

pub some_weaker : {A : Type 0} (o : Option A) (P Q : A → Type 0) → ((a : A) → P a → Q a) → IfSome o P → IfSome o Q
some_weaker None P Q f h = tt
some_weaker (Some a) P Q f h = f a h

pub none_weaker : {A : Type 0} (o : Option A) (P Q : Type 0) → (P → Q) → IfNone o P → IfNone o Q
none_weaker None P Q f h = f h
none_weaker (Some a) P Q f h = tt

pub IfOk-both : {A E : Type 0} (r : Result A E) (P Q : A → Type 0) (O : Type 0) → ((a : A) → P a → O → Q a) → IfOk r P → OnOk r O → IfOk r Q
IfOk-both (Ok a) P Q O f h o = f a h o
IfOk-both (Err e) P Q O f h o = tt

-- the value of an option that is there, with what holds of it
pub some_of : {X : Type 0} (o : Option X) (P : X → Type 0) → is_some o ≡ true → IfSome o P → (x : X) × P x
some_of None P e h = cc
some_of (Some x) P e h = (x, h)
