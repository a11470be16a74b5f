-- What came of the files, one after the other.
use Rattle.std.proofs.Common.{◌≡◌, ℕ, ◌≤◌, true, List, [], ◌∷◌, ◌++◌, length, take, map, Option, Some, None, Result, Ok, Err, Vec, IfSome, IfOk, IsErrOf, refl, sym, ap, subst, ◌∙◌, arith, inl, inr}
use Rattle.std.specs.declared.alloc.Global.{Global}
use Rattle.pm_io.specs.Causes.{Rose}
use Rattle.pm_io.specs.InputState.{InputState}
use Rattle.pm_io.specs.Reading.{ReadsWhole, LeavesBegun}
use Rattle.pm_io.specs.Taking.{followed_by}
use Rattle.pm_io.specs.declared.faults.ReadFault.{ReadFault}
use Rattle.pm_io.specs.declared.faults.ReadFault.TheVariants as faults
use Rattle.pm_io.proofs.Followed.{followed_by-append}
use Rattle.match_top.specs.Answer.{Answer, OrMemory, IsOrMemory, RightOrMemory}
use Rattle.match_top.specs.Given.{Given, Bytes, Missing, TooLong, Unread, NoRoom, Gives, Give, IsReadWhole, IsAtEnd, Came, Judges, EndsUnread, ComesTo, Work, Answers, Answered, AnswersHeld, given_by_fault, Keeps, Asked, Staged}
use Rattle.match_top.specs.Needs.{Need, Value, limit_of}
use Rattle.match_top.specs.declared.answer.Stop.{Stop}
use Rattle.match_top.specs.declared.needs.Kind.{Kind}
use Rattle.match_top.specs.declared.answer.Stop.TheVariants.{Memory}

-- ---- one file

abbrev pub given_by : Result (Vec ℕ Global) ReadFault → Given
given_by (Ok bytes) = Bytes bytes.items
given_by (Err fault) = given_by_fault fault

told_map : {X : Type 0} {P Q : X → Type 0} (told : Option X) → ((x : X) → P x → Q x) → IfSome told P → IfSome told Q
told_map None f h = tt
told_map (Some x) f h = f x h

module _ (need : Need) (before after : InputState) where
  abbrev Told : Result (Vec ℕ Global) ReadFault → Type 0
  Told r = IfSome before.holds (λ held. ReadsWhole (held need.name) (limit_of need.kind) after.left r)

  gives : (r : Result (Vec ℕ Global) ReadFault) → Told r → IfOk r (λ bytes. length bytes.items ≤ limit_of need.kind)
      → (IsErrOf r faults.Read → Rose before.faults after.faults) → Gives (Rose before.faults after.faults) before.holds need (given_by r)
  gives (Ok bytes) told within rose = (within, told_map before.holds (λ held h. h.0) told)
  gives (Err faults.Missing) told within rose = told
  gives (Err faults.TooLong) told within rose = told
  gives (Err faults.Memory) told within rose = told
  gives (Err faults.Read) told within rose = rose refl

  read_whole : (r : Result (Vec ℕ Global) ReadFault) → Told r → LeavesBegun after.begun r → after.holds ≡ before.holds → IsReadWhole after (given_by r)
  read_whole (Ok bytes) told begun holds = (begun, subst (λ h. IfSome h (λ _. after.left ≡ [])) (sym holds) (told_map before.holds (λ held h. h.2) told))
  read_whole (Err faults.Missing) told begun holds = tt
  read_whole (Err faults.TooLong) told begun holds = tt
  read_whole (Err faults.Memory) told begun holds = tt
  read_whole (Err faults.Read) told begun holds = tt

  pub came : (r : Result (Vec ℕ Global) ReadFault) → Told r → IfOk r (λ bytes. length bytes.items ≤ limit_of need.kind) → LeavesBegun after.begun r
      → after.holds ≡ before.holds → after.asked ≡ followed_by before.asked (need.name ∷ []) → before.faults ≤ after.faults
      → (IsErrOf r faults.Read → Rose before.faults after.faults) → Came (need ∷ []) before after (given_by r ∷ [])
  came r told within begun holds asked later rose = record {
    give = (gives r told within rose, tt);
    asked = asked;
    untouched = λ e. absurd cc;
    at_end = read_whole r told begun holds;
    holds = holds;
    later = later;
  }

  -- what bytes that were read stand for
  pub judged : (source : List ℕ) (stage : Result (Value need.kind) Stop) → Asked need before after (Ok source) → Judges need.kind source stage → Staged need before after stage
  judged source stage asked judges = record { given = asked.given; came = asked.came; comes = by asked.given asked.keeps } where
    by : (given : Given) → Keeps need given (Ok source) → ComesTo need given stage
    by (Bytes bytes) keeps = let same : source ≡ bytes = cc in subst (λ s. Judges need.kind s stage) same judges
    by Missing keeps = absurd keeps
    by TooLong keeps = absurd keeps
    by Unread keeps = absurd keeps
    by NoRoom keeps = absurd keeps

  pub unread : (stop : Stop) → Asked need before after (Err stop) → Staged need before after (Err stop)
  unread stop asked = record { given = asked.given; came = asked.came; comes = by asked.given asked.keeps } where
    by : (given : Given) → Keeps need given (Err stop) → ComesTo need given (Err stop)
    by (Bytes bytes) keeps = absurd cc
    by Missing keeps = keeps
    by TooLong keeps = keeps
    by Unread keeps = keeps
    by NoRoom keeps = keeps

-- the bytes that were read of a file
pub asked_whole : (kind : Kind) (name : List ℕ) (limit : ℕ) (before after : InputState) (bytes : Vec ℕ Global) (source : List ℕ) → limit ≡ limit_of kind → source ≡ bytes.items
    → IfSome before.holds (λ held. ReadsWhole (held name) limit after.left (Ok bytes)) → length bytes.items ≤ limit → after.begun ≡ true → after.holds ≡ before.holds
    → after.asked ≡ followed_by before.asked (name ∷ []) → before.faults ≤ after.faults → Asked (record { kind = kind; name = name }) before after (Ok source)
asked_whole kind name limit before after bytes source is_limit is_source told within begun holds asked later = record {
  given = Bytes bytes.items;
  came = came (record { kind = kind; name = name }) before after (Ok bytes)
      (subst (λ (l : ℕ). IfSome before.holds (λ held. ReadsWhole (held name) l after.left (Ok bytes))) is_limit told)
      (subst (λ (l : ℕ). length bytes.items ≤ l) is_limit within) begun holds asked later (λ e. absurd cc);
  keeps = ap Ok is_source;
}

-- a file by an equal name
pub named : (kind : Kind) (n m : List ℕ) (before after : InputState) (stage : Result (Value kind) Stop) → n ≡ m
    → Staged (record { kind = kind; name = n }) before after stage → Staged (record { kind = kind; name = m }) before after stage
named kind n m before after stage e staged = subst (λ (name : List ℕ). Staged (record { kind = kind; name = name }) before after stage) e staged

-- ---- one after the other

give_map : (f g : Type 0) (told : Option (List ℕ → Option (List ℕ))) (needs : List Need) (given : List Given) → (f → g) → Give f told needs given → Give g told needs given
give_map f g told needs [] to h = tt
give_map f g told [] (given ∷ more) to h = absurd h
give_map f g told (need ∷ needs) (given ∷ more) to h = (by given h.0, give_map f g told needs more to h.1) where
  by : (given : Given) → Gives f told need given → Gives g told need given
  by (Bytes bytes) h = h
  by Missing h = h
  by TooLong h = h
  by Unread h = to h
  by NoRoom h = h

together : (need : Need) (needs : List Need) (before mid after : InputState) (given : Given) (more : List Given)
    → Came (need ∷ []) before mid (given ∷ []) → Came needs mid after more → Came (need ∷ needs) before after (given ∷ more)
together need needs before mid after given more first rest = record {
  give = (
    (give_map (Rose before.faults mid.faults) (Rose before.faults after.faults) before.holds (need ∷ []) (given ∷ []) (λ rose. rises_first rose rest.later) first.give).0,
    subst (λ told. Give (Rose before.faults after.faults) told needs more) first.holds
        (give_map (Rose mid.faults after.faults) (Rose before.faults after.faults) mid.holds needs more (λ rose. rises_second first.later rose) rest.give),
  );
  asked = rest.asked ∙ ap (λ asked. followed_by asked (map (λ (need : Need). need.name) (take (length more) needs))) first.asked
      ∙ followed_by-append before.asked (need.name ∷ []) (map (λ (need : Need). need.name) (take (length more) needs));
  untouched = λ e. absurd cc;
  at_end = ends more first.at_end rest.at_end rest.untouched;
  holds = rest.holds ∙ first.holds;
  later = omega (arith, first.later, rest.later);
} where
  rises_first : Rose before.faults mid.faults → mid.faults ≤ after.faults → Rose before.faults after.faults
  rises_first rose later = omega (arith, rose, later)

  rises_second : before.faults ≤ mid.faults → Rose mid.faults after.faults → Rose before.faults after.faults
  rises_second later rose = omega (arith, rose, later)

  ends : (more : List Given) → IsReadWhole mid given → IsAtEnd after more → (more ≡ [] → after ≡ mid) → IsAtEnd after (given ∷ more)
  ends [] at_end last untouched = subst (λ s. IsReadWhole s given) (sym (untouched refl)) at_end
  ends (next ∷ more) at_end last untouched = last

pub goes_on : (need : Need) (needs : List Need) (work : Work (need ∷ needs)) (before mid after : InputState) (value : Value need.kind) (answer : Answer)
    → Staged need before mid (Ok value) → Answered needs (work value) mid after answer → Answered (need ∷ needs) work before after answer
goes_on need needs work before mid after value answer stage rest = record {
  given = stage.given ∷ rest.given;
  came = together need needs before mid after stage.given rest.given stage.came rest.came;
  answers = record { stage = Ok value; comes = stage.comes; goes_on = rest.answers };
}

pub ends_here : (need : Need) (needs : List Need) (work : Work (need ∷ needs)) (before after : InputState) (stop : Stop)
    → Staged need before after (Err stop) → Answered (need ∷ needs) work before after (Err stop)
ends_here need needs work before after stop stage = record {
  given = stage.given ∷ [];
  came = record {
    give = (stage.came.give.0, tt);
    asked = stage.came.asked;
    untouched = λ e. absurd cc;
    at_end = stage.came.at_end;
    holds = stage.came.holds;
    later = stage.came.later;
  };
  answers = record { stage = Err stop; comes = stage.comes; goes_on = (refl, refl) };
}

-- ---- no file

nothing : (needs : List Need) (state : InputState) → Came needs state state []
nothing needs state = record { give = tt; asked = same state.asked; untouched = λ e. refl; at_end = tt; holds = refl; later = omega arith } where
  same : {X : Type 0} (told : Option (List X)) → told ≡ followed_by told []
  same None = refl
  same (Some list) = ap Some (sym (kept list)) where
    kept : {X : Type 0} (l : List X) → l ++ [] ≡ l
    kept [] = refl
    kept (x ∷ l) = ap (λ k. x ∷ k) (kept l)

pub works : (is_right : Answer → Type 0) (answer : Answer) (state : InputState) → RightOrMemory is_right answer → Answered [] is_right state state answer
works is_right answer state is = record { given = []; came = nothing [] state; answers = (refl, is) }

pub no_memory : (needs : List Need) (work : Work needs) (state : InputState) → Answered needs work state state (Err Memory)
no_memory [] work state = works work (Err Memory) state (inr refl)
no_memory (need ∷ needs) work state = record { given = []; came = nothing (need ∷ needs) state; answers = refl }

-- ---- where no read failed

pub by_held : (needs : List Need) (work : Work needs) (before after : InputState) (answer : Answer) → ¬ Rose before.faults after.faults
    → Answered needs work before after answer → IfSome before.holds (λ held. AnswersHeld needs work held answer)
by_held needs work before after answer quiet answered = by before.holds answered.came.give where
  by : (told : Option (List ℕ → Option (List ℕ))) → Give (Rose before.faults after.faults) told needs answered.given → IfSome told (λ held. AnswersHeld needs work held answer)
  by None give = tt
  by (Some held) give = record {
    given = answered.given;
    give = give_map (Rose before.faults after.faults) ⊥ (Some held) needs answered.given quiet give;
    answers = answered.answers;
  }

pub stop_or_memory : (wanted stop : Stop) → OrMemory wanted stop → IsOrMemory (Err wanted) (Err stop)
stop_or_memory wanted stop (inl e) = inl (ap Err e)
stop_or_memory wanted stop (inr e) = inr (ap Err e)
