use Rattle.std.proofs.Common.{ap, ◌∙◌}
use Rattle.info65.specs.Words.{SettingsView}
use Rattle.map65.specs.Words.{image_by, most_of}
use Rattle.map65.proofs.ReadLemmas.{image_seen}
use Rattle.map65.proofs.reading.read_image.Goals as goal

pub returns-clause-image : goal.returns-clause-image
returns-clause-image g c = λ _.
    image_seen _ _ _ c.args.info.now.settings _ _ c.in_ok-bytes.bytes.items _ c.in_ok-bytes.ensures.count
    (c.from_bytes.ensures.value ∙ ap (λ (s : SettingsView). image_by s.start s.size c.in_ok-bytes.bytes.items) (c.settings.view_is ∙ c.settings-settings.ensures.settings))
    (ap (λ (s : SettingsView). s.offset) (c.settings.view_is ∙ c.settings-settings.ensures.settings))
    (c.most_of.ensures ∙ ap (λ (s : SettingsView). most_of s.size) (c.settings.view_is ∙ c.settings-settings.ensures.settings))
    c.in_ok-bytes.ensures.bytes
