use Rattle.std.proofs.Common.{◌≡◌, List, Some, sym, ap, subst, ◌∙◌}
use Rattle.std.specs.Prelude.{option_map, slice_get, string_bytes}
use Rattle.std.proofs.lemmas.Option.{same_Some, slice_get-map}
use Rattle.w32tm_text.specs.Words.{SpellsAction, texts}
use Rattle.w32tm_text.proofs.Flags.{flags_of}
use Rattle.w32tm_text.proofs.words.read_command.Goals as goal

pub returns-in_err-read_action-clause-found : goal.returns-in_err-read_action-clause-found
returns-in_err-read_action-clause-found c other spelled =
    let first = c.in_ok-first.ensures.value ∙ ap (λ (words : List _). slice_get words 0) c.as_slice.ensures.value in
    let word : Some (string_bytes c.in_ok-first.first.now) ≡ Some spelled.first =
    ap (option_map string_bytes) first ∙ sym (slice_get-map string_bytes c.args.words.now.items 0) ∙ ap (λ (texts : List _). slice_get texts 0) spelled.are
    in
    let bytes = c.as_bytes.ensures.value ∙ same_Some _ _ word in
    let wrong =
    c.in_err-read_action.ensures.found other.action (subst (SpellsAction other.action) (sym bytes) spelled.action)
    (flags_of other (texts c.args.words.now.items) spelled.options)
    in
    cc wrong

pub returns-clause-found : goal.returns-clause-found
returns-clause-found c other spelled =
    let first = c.in_ok-first.ensures.value ∙ ap (λ (words : List _). slice_get words 0) c.as_slice.ensures.value in
    let word : Some (string_bytes c.in_ok-first.first.now) ≡ Some spelled.first =
    ap (option_map string_bytes) first ∙ sym (slice_get-map string_bytes c.args.words.now.items 0) ∙ ap (λ (texts : List _). slice_get texts 0) spelled.are
    in
    let bytes = c.as_bytes.ensures.value ∙ same_Some _ _ word in
    let action =
    c.in_ok-read_action.ensures.found other.action (subst (SpellsAction other.action) (sym bytes) spelled.action)
    (flags_of other (texts c.args.words.now.items) spelled.options)
    in
    c.read_options.ensures.found other (sym (same_Some _ _ action)) spelled.options
