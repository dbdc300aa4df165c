mod JustOpened
