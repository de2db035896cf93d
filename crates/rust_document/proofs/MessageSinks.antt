-- What all steps of a dressed tree make of a list of messages.
use Rattle.std.proofs.Common.{◌≡◌, true, List, [], ◌∷◌, ◌++◌, map, refl, sym, ◌∙◌, ap, append_assoc, append-nil}
use Rattle.std.proofs.lemmas.List.{map-append}
use Rattle.parser_input.specs.Leaf as leaves
use Rattle.parser_events.specs.Dress.{dress_root}
use Rattle.parser_events.specs.Dressed as dressed
use Rattle.parser_events.specs.Dressed.{Dressed, sayings_of}
use Rattle.parser_events.specs.Fits.{fits, IsRooted}
use Rattle.parser_events.specs.Forest as forest
use Rattle.parser_events.specs.Sinks.{TakesAll}
use Rattle.parser_events.specs.Steps.{Step, steps}
use Rattle.parser_events.specs.TextSteps as texts
use Rattle.parser_events.specs.TextSteps.{TextStep, text_steps}
use Rattle.rust_document.specs.MessageSinks.{IsHeard}
use Rattle.rust_document.specs.Reading.{Message, of_grammar}
use Rattle.rust_document.specs.Seen.{message_of_error}
use Rattle.rust_document.specs.TreeBuilt.{AreMessages}
use Rattle.rust_document.specs.TreeSinks.{heard}
use Rattle.rust_document.specs.declared.message_sink.MessageSink.{MessageSink}
use Rattle.rust_document.specs.declared.syntax_error.SyntaxError.{SyntaxError}

-- the messages of steps one after another
abbrev pub all_heard : List TextStep → List Message
all_heard [] = []
all_heard (s ∷ ss) = heard s ++ all_heard ss

heard-append : (xs ys : List TextStep) → all_heard (xs ++ ys) ≡ all_heard xs ++ all_heard ys
heard-append [] ys = refl
heard-append (x ∷ xs) ys = ap (λ (w : List Message). heard x ++ w) (heard-append xs ys) ∙ sym (append_assoc (heard x) (all_heard xs) (all_heard ys))

-- the messages of a tree's steps are the tree's
pub heard-tree : (d : Dressed) → all_heard (text_steps d) ≡ map of_grammar (sayings_of d)
heard-tree dressed.End = refl
heard-tree (dressed.Leaf k t d) = heard-tree d
heard-tree (dressed.Said m p d) = ap (λ (w : List Message). of_grammar (record { message = m; place = p }) ∷ w) (heard-tree d)
heard-tree (dressed.Node k c d) =
    heard-append (text_steps c) (texts.Exit ∷ text_steps d)
    ∙ ap (λ (w : List Message). w ++ all_heard (text_steps d)) (heard-tree c)
    ∙ ap (λ (w : List Message). map of_grammar (sayings_of c) ++ w) (heard-tree d)
    ∙ sym (map-append of_grammar (sayings_of c) (sayings_of d))

-- a sink that takes all steps
taken-heard : (old new : MessageSink) (ss : List TextStep) → TakesAll IsHeard old ss new → map message_of_error new.errors.items ≡ map message_of_error old.errors.items ++ all_heard ss
taken-heard old new [] h = ap (λ (t : MessageSink). map message_of_error t.errors.items) h ∙ sym (append-nil (map message_of_error old.errors.items))
taken-heard old new (s ∷ ss) h =
    let next = h.0 in
    taken-heard next new ss h.1.1
    ∙ ap (λ (w : List Message). w ++ all_heard ss) h.1.0
    ∙ append_assoc (map message_of_error old.errors.items) (heard s) (all_heard ss)

abbrev Takes : MessageSink → MessageSink → List Step → List leaves.Leaf → Type 0
Takes old new ss ls = (f : forest.Forest) → IsRooted f → ss ≡ steps f → fits ss ls ≡ true → TakesAll IsHeard old (text_steps (dress_root f ls)) new

-- has the messages that stand in the tree
pub all-messages : (old new : MessageSink) (ss : List Step) (ls : List leaves.Leaf) → old.errors.items ≡ [] → Takes old new ss ls → AreMessages ss ls new.errors.items
all-messages old new ss ls start h f a =
    taken-heard old new (text_steps (dress_root f ls)) (h f a.rooted a.are (ap (λ (xs : List Step). fits xs ls) a.are ∙ a.fit))
    ∙ ap (λ (es : List SyntaxError). map message_of_error es ++ all_heard (text_steps (dress_root f ls))) start
    ∙ heard-tree (dress_root f ls)
